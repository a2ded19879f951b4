use Rattle.std.proofs.Common.{◌≡◌, ◌<◌, ℕ, true, get_or}
use Rattle.grid_types.specs.declared.query.Side.{Side}
use Rattle.grid_types.specs.Queries.{is_straight}
use Rattle.grid_types.proofs.query.all_straight.Given as goal

abbrev pub invariant-loop-side : goal.invariant-loop-side
invariant-loop-side g l = (i : ℕ) (side : Side) → i < l.side-index → is_straight (get_or l.sides i side) ≡ true
