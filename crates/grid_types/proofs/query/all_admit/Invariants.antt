use Rattle.std.proofs.Common.{◌≡◌, ◌<◌, ℕ, true, get_or}
use Rattle.grid_types.specs.declared.query.Side.{Side}
use Rattle.grid_types.specs.Queries.{admits}
use Rattle.grid_types.proofs.query.all_admit.Given as goal

abbrev pub invariant-loop-a : goal.invariant-loop-a
invariant-loop-a g l = (i : ℕ) (side : Side) (n : ℕ) → i < l.a → admits (get_or l.sides i side) (get_or l.numbers i n) ≡ true
