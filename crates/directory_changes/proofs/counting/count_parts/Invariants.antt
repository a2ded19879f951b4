use Rattle.std.proofs.Common.{◌≡◌, length, filter}
use Rattle.grid_model.specs.Lists.{below}
use Rattle.directory_changes.specs.Changes.{holds_cell}
use Rattle.directory_changes.proofs.counting.count_parts.Given as goal

abbrev pub invariant-loop-part : goal.invariant-loop-part
invariant-loop-part g l = l.count ≡ length (filter (holds_cell {K = g.row.K} l.dims.intervals l.cells) (below l.part))
