use Rattle.std.proofs.Common.{◌≡◌, ◌<◌, ◌≤◌, ℕ, slice_index}
use Rattle.grid_cells.proofs.walk.last_below.Given as goal

abbrev pub invariant-loop-a : goal.invariant-loop-a
invariant-loop-a g l = (b : ℕ) → l.a ≤ b → b < g.row.K → slice_index l.cell b ≡ slice_index l.hi b
