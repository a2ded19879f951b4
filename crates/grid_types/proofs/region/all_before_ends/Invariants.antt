use Rattle.std.proofs.Common.{ℕ, ◌<◌, ◌≤◌, slice_index, map}
use Rattle.grid_types.specs.Queries.{end_of}
use Rattle.grid_types.proofs.region.all_before_ends.Given as goal

abbrev pub invariant-loop-a : goal.invariant-loop-a
invariant-loop-a g l = (k : ℕ) → k < l.a → slice_index l.numbers k ≤ slice_index (map end_of l.sides) k
