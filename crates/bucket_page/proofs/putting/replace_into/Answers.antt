use Rattle.std.proofs.Common.{◌≡◌, ◌≤◌, ◌+◌, ◌-◌, ◌*◌, ◌∙◌, ◌++◌, ℕ, List, refl, ap, subst, take, drop, length, arith}
use Rattle.std.proofs.lemmas.List.{length-take-le, length-drop, length-set}
use borrow.Rule.Slice.PartMut.{mid_of}
use Rattle.page_fields.proofs.Parts.{rest_of}
use Rattle.grid_types.specs.Regions.{Within}
use Rattle.bucket_page.proofs.Composed.{replaced_record}
use Rattle.bucket_page.proofs.Finding.{found_in_order}
use Rattle.bucket_page.proofs.Growing.{put_spelled}
use Rattle.bucket_page.proofs.Places.{pairs_of-set}
use Rattle.bucket_page.proofs.Pointwise.{by_index}
use Rattle.bucket_page.proofs.Tables.{ascends}
use Rattle.bucket_page.proofs.putting.replace_into.Goals as goal

pub returns-clause-written : goal.returns-clause-written
returns-clause-written g c = λ capacity b s many lt.
    let from = c.args.from.now in
    let start = 96 + 80 * c.args.at in
    let low : start ≤ 3856 + 96 = omega (arith, c.requires.place) in
    let front : length (take start from) ≡ start = length-take-le start from (omega (arith, c.told-from, low)) in
    let back : length (drop (start + 80) from) ≡ 4096 - (start + 80) = length-drop (start + 80) from ∙ omega (arith, c.told-from) in
    let e1 : start ≡ 0 + length (take start from) = omega (arith, front) in
    let end : List ℕ = mid_of (start + 80) (4096 - (start + 80)) from in
    let rest : end ≡ drop (start + 80) from = rest_of (start + 80) 4096 from c.told-from in
    let e3 : 4096 ≡ start + 80 + length end = omega (arith, ap length rest, back, low) in
    let f1 : take start c.put_bytes.new.page ≡ take 0 c.args.to.now ++ take start from = ap (λ (n : ℕ). take n c.put_bytes.new.page) e1 ∙ c.put_bytes.ensures.front in
    let f3 : take 4096 c.put_bytes-2.new.page ≡ take (start + 80) c.put_row.new.page ++ drop (start + 80) from = ap (λ (n : ℕ). take n c.put_bytes-2.new.page) e3 ∙ c.put_bytes-2.ensures.front ∙ ap (λ (xs : List ℕ). take (start + 80) c.put_row.new.page ++ xs) rest in
    replaced_record g.row.K capacity (length b.rows) c.args.at start b c.args.row.now from c.args.to.now c.put_bytes.new.page c.put_row.new.page c.put_bytes-2.new.page
    c.requires.few s.lawful s.bytes refl many lt refl c.put_row.array_long c.put_bytes-2.array_long f1 c.put_row.ensures.front f3

pub returns-clause-spelled : goal.returns-clause-spelled
returns-clause-spelled g c = λ capacity before b s many lt le there.
    let k = c.args.row.now.key.numbers in
    let r = c.args.row.now in
    let at = c.args.at in
    let found = found_in_order k b.rows at (ascends b.rows s.lawful.ascending) lt there.key in
    let table = pairs_of-set k r.value b.rows at r refl refl lt found.below found.equal in
    let inside : Within b.box.region.lo b.box.region.hi k = subst (Within b.box.region.lo b.box.region.hi) (there.key r) ((by_index g.row.K before b s.lawful).inside at r lt) in
    put_spelled g.row.K before capacity b r _ c.put_bytes-2.new.page s.lawful (returns-clause-written g c before b s many lt) table (omega (arith, le, length-set b.rows at r)) c.put_row.ensures.key c.put_row.ensures.short inside
