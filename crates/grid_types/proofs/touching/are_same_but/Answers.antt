use Rattle.std.proofs.Common.{sym, ◌∙◌, arith}
use Rattle.grid_types.proofs.Adjoining.{same-but, differ-at}
use Rattle.grid_types.proofs.touching.are_same_but.Goals as goal

pub returns-then-these-b : goal.returns-then-these-b
returns-then-these-b g c =
    sym (differ-at c.args.a c.args.these.now c.args.those.now c.loop-b.b (omega (arith, c.told-these, c.loop-b-test.true)) c.if-b-a.true c.if-these-b.true)

pub returns : goal.returns
returns g c =
    sym (same-but c.args.a c.args.these.now c.args.those.now (c.told-these ∙ sym c.told-those) (λ k l. c.loop-b.invariant k (omega (arith, l, c.told-these, c.loop-b-test.false))))
