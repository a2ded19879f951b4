use Rattle.std.proofs.Common.{◌<◌, ◌≤◌, ℕ, slice_index}
use Rattle.grid_check.proofs.covers.all_between.Given as goal

abbrev pub invariant-loop-a : goal.invariant-loop-a
invariant-loop-a g l = (b : ℕ) → b < l.a → (slice_index l.lo b ≤ slice_index l.cell b) × (slice_index l.cell b ≤ slice_index l.hi b)
