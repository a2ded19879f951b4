use Rattle.std.proofs.Common.{◌≡◌, ◌*◌, drop}
use Rattle.grid_model.specs.Lists.{product}
use Rattle.split_policy.proofs.refinement.is_product_within.Given as goal

abbrev pub invariant-loop-a : goal.invariant-loop-a
invariant-loop-a g l = l.cells * product (drop l.a l.numbers) ≡ product l.numbers
