use Rattle.std.proofs.Common.{◌≡◌, ◌≤◌, ◌+◌, ◌-◌, ◌*◌, ◌∙◌, ◌++◌, ◌∷◌, ℕ, refl, sym, ap, take, drop, length, length-append, arith}
use Rattle.std.specs.List.{insert}
use Rattle.std.proofs.lemmas.List.{length-take-le, length-drop}
use Rattle.grid_types.specs.Regions.{Within}
use Rattle.grid_types.proofs.Numbers.{contains-within}
use Rattle.bucket_page.proofs.Composed.{inserted}
use Rattle.bucket_page.proofs.Growing.{put_spelled}
use Rattle.bucket_page.proofs.Places.{pairs_of-insert}
use Rattle.bucket_page.proofs.Pointwise.{by_index}
use Rattle.bucket_page.proofs.putting.insert_into.Goals as goal

pub returns-clause-written : goal.returns-clause-written
returns-clause-written g c = λ capacity b s is.
    let from = c.args.from.now in
    let start = 96 + 80 * c.args.at in
    let low : start ≤ 3856 + 96 = omega (arith, c.requires.place, c.requires.room) in
    let front : length (take 8 from) ≡ 8 = length-take-le 8 from (omega (arith, c.told-from)) in
    let middle : length (take (start - 10) (drop 10 from)) ≡ start - 10 = length-take-le (start - 10) (drop 10 from) (omega (arith, length-drop 10 from, c.told-from, low)) in
    let back : length (take (4016 - start) (drop start from)) ≡ 4016 - start = length-take-le (4016 - start) (drop start from) (omega (arith, length-drop start from, c.told-from, low)) in
    let e1 : 8 ≡ 0 + length (take 8 from) = omega (arith, front) in
    let e3 : start ≡ 10 + length (take (start - 10) (drop 10 from)) = omega (arith, middle) in
    let e5 : 4096 ≡ start + 80 + length (take (4016 - start) (drop start from)) = omega (arith, back, low) in
    let f1 : take 8 c.put_bytes.new.page ≡ take 0 c.args.to.now ++ take 8 from = ap (λ (n : ℕ). take n c.put_bytes.new.page) e1 ∙ c.put_bytes.ensures.front in
    let f3 : take start c.put_bytes-2.new.page ≡ take 10 c.set_u16.new.page ++ take (start - 10) (drop 10 from) = ap (λ (n : ℕ). take n c.put_bytes-2.new.page) e3 ∙ c.put_bytes-2.ensures.front in
    let f5 : take 4096 c.put_bytes-3.new.page ≡ take (start + 80) c.put_row.new.page ++ take (4016 - start) (drop start from) = ap (λ (n : ℕ). take n c.put_bytes-3.new.page) e5 ∙ c.put_bytes-3.ensures.front in
    inserted g.row.K capacity c.args.count c.args.at start b c.args.row.now from c.args.to.now c.put_bytes.new.page c.set_u16.new.page c.put_bytes-2.new.page c.put_row.new.page c.put_bytes-3.new.page
    c.requires.few s.lawful s.bytes is c.requires.room c.requires.place refl c.put_bytes-2.array_long c.put_row.array_long c.put_bytes-3.array_long
    f1 c.set_u16.ensures.front f3 c.put_row.ensures.front f5

pub returns-clause-spelled : goal.returns-clause-spelled
returns-clause-spelled g c = λ capacity room before b s is p in_region.
    let r = c.args.row.now in
    let k = r.key.numbers in
    let at = c.args.at in
    let rows = b.rows in
    let fits = by_index g.row.K before b s.lawful in
    let key = c.put_row.ensures.key in
    let table = pairs_of-insert k r.value rows at r refl refl p.inside p.below p.above in
    let size : length (insert rows at r) ≡ length rows + 1 = length-append (take at rows) (r ∷ drop at rows) ∙ omega (arith, length-take-le at rows p.inside, length-drop at rows, p.inside) in
    let inside : Within b.box.region.lo b.box.region.hi k = (contains-within b.box.region.lo b.box.region.hi k (fits.lo.count ∙ sym key.count) (key.count ∙ sym fits.hi.count)).0 in_region in
    put_spelled g.row.K before capacity b r (insert rows at r) c.put_bytes-3.new.page s.lawful (returns-clause-written g c before b s is) table (omega (arith, size, is, room)) key c.put_row.ensures.short inside
