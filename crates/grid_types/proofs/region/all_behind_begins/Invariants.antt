use Rattle.std.proofs.Common.{ℕ, ◌<◌, ◌≤◌, slice_index, map}
use Rattle.grid_types.specs.Queries.{begin_of}
use Rattle.grid_types.proofs.region.all_behind_begins.Given as goal

abbrev pub invariant-loop-a : goal.invariant-loop-a
invariant-loop-a g l = (k : ℕ) → k < l.a → slice_index (map begin_of l.sides) k ≤ slice_index l.numbers k
