use Rattle.std.proofs.Common.{◌≡◌, ◌∙◌, ◌+◌, ◌-◌, ◌*◌, ap, refl, length, arith, List, ℕ}
use Rattle.grid_types.specs.declared.sizes.TheConstants.{KEY_BYTES}
use Rattle.page_fields.specs.Fields.{replaced}
use Rattle.page_fields.specs.Padded.{numbers, padded}
use Rattle.page_fields.proofs.BytesOf.{padded_is, length-numbers, length-padded}
use Rattle.page_fields.proofs.Parts.{replaced_more, front_of}
use Rattle.page_fields.proofs.Series.{none-written, next-written, all-written}
use Rattle.page_fields.proofs.writing.put_corner.Goals as goal

pub loop-a-init : goal.loop-a-init
loop-a-init g c = none-written 8 c.args.at c.args.corner.now c.args.page.now

pub loop-a-preserved : goal.loop-a-preserved
loop-a-preserved g c =
    next-written 8 c.args.at c.args.corner.now c.args.page.now c.loop-a.a (8 * c.loop-a.a) c.loop-a.page _ (omega (arith, c.loop-a-test.true, c.told-corner)) (omega (arith, c.told-page)) refl c.loop-a.invariant c.set_u64.ensures.written

pub returns-clause-written : goal.returns-clause-written
returns-clause-written g c =
    let corner = c.args.corner.now in
    let end = c.args.at + 8 * g.row.K in
    let long : length (numbers 8 corner) ≡ 8 * g.row.K = omega (arith, length-numbers 8 corner, c.told-corner) in
    let now = all-written 8 c.args.at corner c.args.page.now c.loop-a.a c.loop-a.page (omega (arith, c.told-corner, c.loop-a-test.false)) c.loop-a.invariant in
    replaced_more c.args.at end c.args.page.now c.loop-a.page _ (numbers 8 corner) _ now c.put_zeros.ensures.written (omega (arith, long)) (omega (arith, c.told-page))
    ∙ ap (λ (xs : List ℕ). replaced c.args.at xs c.args.page.now) (padded_is KEY_BYTES (c.args.at + KEY_BYTES - end) (numbers 8 corner) (omega (arith, long)))

pub returns-clause-front : goal.returns-clause-front
returns-clause-front g c =
    let corner = c.args.corner.now in
    let short = length-padded KEY_BYTES (numbers 8 corner) (omega (arith, length-numbers 8 corner, c.told-corner)) in
    front_of c.args.at KEY_BYTES c.args.page.now _ (padded KEY_BYTES (numbers 8 corner)) (returns-clause-written g c) short (omega (arith, c.told-page))
