use Rattle.std.proofs.Common.{◌≤◌, ◌+◌}
use Rattle.std.specs.Prelude.{IsTrue}
use Rattle.grid_types.specs.Halves.{half_number}
use Rattle.disk_trait.specs.Calls.{OnlyReads}
use Rattle.file_opening.specs.Slots.{HasNoneBefore}
use Rattle.file_opening.proofs.slots.find_on_half.Given as goal

abbrev pub invariant-loop-slot : goal.invariant-loop-slot
invariant-loop-slot g l = record {
  same : OnlyReads g.D.Disk l.initial.disk l.disk;
  steps : l.steps ≤ l.initial.steps + l.slot;
  none : IsTrue (g.D.Disk.honest l.initial.disk) → HasNoneBefore g.row.K l.geometry.shape (g.D.Disk.seen l.initial.disk) (half_number l.half) l.session l.first l.slot;
}
