use Rattle.std.proofs.Common.{◌≡◌, length}
use Rattle.grid_model.specs.Lists.{is_among}
use Rattle.directory_changes.specs.Changes.{parts_changed}
use Rattle.file_state.proofs.Walks.{HasWalked}
use Rattle.file_state.proofs.publishing.publish_parts.Given as goal

abbrev pub invariant-loop-part : goal.invariant-loop-part
invariant-loop-part g l = record {
  walked : HasWalked (is_among (parts_changed {K = g.row.K} l.dims.intervals l.directory)) l.at l.pages l.initial.states l.states l.part l.next;
  size : length l.states ≡ length l.initial.states;
}
