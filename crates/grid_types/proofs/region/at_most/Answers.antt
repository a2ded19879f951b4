use Rattle.std.proofs.Common.{sym, ◌∙◌, arith}
use Rattle.grid_types.proofs.Numbers.{all-at-most, one-above}
use Rattle.grid_types.proofs.region.at_most.Goals as goal

pub returns-then-those-a : goal.returns-then-those-a
returns-then-those-a g c = sym (one-above c.args.these.now c.args.those.now c.loop-a.a (omega (arith, c.loop-a-test.true, c.told-these)) c.if-those-a.true)

pub returns : goal.returns
returns g c = sym (all-at-most c.args.these.now c.args.those.now (c.told-these ∙ sym c.told-those) (λ i h. c.loop-a.invariant i (omega (arith, h, c.told-these, c.loop-a-test.false))))
