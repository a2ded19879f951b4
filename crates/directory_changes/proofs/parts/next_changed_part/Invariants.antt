use Rattle.std.proofs.Common.{◌≡◌, ◌<◌, ◌≤◌, ℕ, false}
use Rattle.grid_model.specs.Lists.{is_among}
use Rattle.directory_changes.specs.Changes.{parts_changed}
use Rattle.directory_changes.proofs.parts.next_changed_part.Given as goal

abbrev pub invariant-loop-part : goal.invariant-loop-part
invariant-loop-part g l = (other : ℕ) → l.from ≤ other → other < l.part → is_among (parts_changed {K = g.row.K} l.dims.intervals l.change) other ≡ false
