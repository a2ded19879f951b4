use Rattle.std.proofs.Common.{sym, ◌∙◌, arith, max}
use Rattle.grid_types.proofs.Zipped.{is-zip}
use Rattle.grid_types.proofs.touching.higher_each.Goals as goal

pub returns : goal.returns
returns g c = is-zip max c.args.these.now c.args.those.now c.loop-a.higher (c.told-these ∙ sym c.told-those) (c.loop-a.invariant.count ∙ sym c.told-these) (λ k h. c.loop-a.invariant.each k (omega (arith, h, c.told-these, c.loop-a-test.false)))
