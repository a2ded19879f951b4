use Rattle.std.proofs.Common.{arith}
use Rattle.split_policy.proofs.Growing.{part-above}
use Rattle.split_policy.proofs.refinement.is_product_within.Goals as goal

pub returns-then-limit-cells : goal.returns-then-limit-cells
returns-then-limit-cells g c =
    part-above c.args.numbers.now c.loop-a.cells c.loop-a.a c.args.limit (λ a p. c.requires a (omega (arith, p, c.told-numbers))) (omega (arith, c.if-limit-cells.true)) c.loop-a.invariant
