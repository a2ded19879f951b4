use Rattle.std.proofs.Common.{◌≡◌, ◌≤◌, ◌+◌, ◌-◌, ◌*◌, ◌∙◌, ◌++◌, [], ℕ, List, refl, ap, take, drop, length, arith}
use Rattle.std.proofs.lemmas.List.{length-take-le, length-drop}
use borrow.Rule.Slice.PartMut.{mid_of}
use Rattle.grid_model.specs.Lone.{record_of}
use Rattle.page_fields.proofs.Parts.{rest_of}
use Rattle.bucket_page.proofs.Shortened.{removed, shortened}
use Rattle.bucket_page.proofs.taking.remove_into.Goals as goal

pub returns-clause-written : goal.returns-clause-written
returns-clause-written g c = λ capacity b s is.
    let from = c.args.from.now in
    let start = 96 + 80 * c.args.at in
    let low : start + 80 ≤ 3936 = omega (arith, c.requires.place, c.requires.many) in
    let front : length (take 8 from) ≡ 8 = length-take-le 8 from (omega (arith, c.told-from)) in
    let middle : length (take (start - 10) (drop 10 from)) ≡ start - 10 = length-take-le (start - 10) (drop 10 from) (omega (arith, length-drop 10 from, c.told-from, low)) in
    let end : List ℕ = mid_of (start + 80) (4096 - (start + 80)) from in
    let rest : end ≡ drop (start + 80) from = rest_of (start + 80) 4096 from c.told-from in
    let e1 : 8 ≡ 0 + length (take 8 from) = omega (arith, front) in
    let e3 : start ≡ 10 + length (take (start - 10) (drop 10 from)) = omega (arith, middle) in
    let e4 : 4016 ≡ start + length end = omega (arith, ap length rest, length-drop (start + 80) from, c.told-from, low) in
    let f1 : take 8 c.put_bytes.new.page ≡ take 0 c.args.to.now ++ take 8 from = ap (λ (n : ℕ). take n c.put_bytes.new.page) e1 ∙ c.put_bytes.ensures.front in
    let f3 : take start c.put_bytes-2.new.page ≡ take 10 c.set_u16.new.page ++ take (start - 10) (drop 10 from) = ap (λ (n : ℕ). take n c.put_bytes-2.new.page) e3 ∙ c.put_bytes-2.ensures.front in
    let f4 : take 4016 c.put_bytes-3.new.page ≡ take start c.put_bytes-2.new.page ++ drop (start + 80) from = ap (λ (n : ℕ). take n c.put_bytes-3.new.page) e4 ∙ c.put_bytes-3.ensures.front ∙ ap (λ (xs : List ℕ). take start c.put_bytes-2.new.page ++ xs) rest in
    removed g.row.K capacity c.args.count c.args.at start b (record_of ([], [])) from c.args.to.now c.put_bytes.new.page c.set_u16.new.page c.put_bytes-2.new.page c.put_bytes-3.new.page c.put_zeros.new.page
    c.requires.few s.lawful s.bytes is c.requires.many c.requires.place refl c.put_zeros.array_long f1 c.set_u16.ensures.front f3 f4 c.put_zeros.ensures.front

pub returns-clause-spelled : goal.returns-clause-spelled
returns-clause-spelled g c = λ capacity key b s is there.
    shortened g.row.K capacity b key c.put_zeros.new.page c.args.at s.lawful (returns-clause-written g c capacity b s is) there
