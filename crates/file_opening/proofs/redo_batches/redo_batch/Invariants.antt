use Rattle.std.proofs.Common.{◌≡◌, ◌+◌, ◌++◌, [], List, drop}
use Rattle.grid_types.specs.declared.layout_change.LoggedUpdate.{LoggedUpdate}
use Rattle.disk_trait.specs.Calls.{Changes}
use Rattle.checkpoints.specs.Disks.{KeepsLength}
use Rattle.file_updates.specs.Rooms.{HasRoomFor}
use Rattle.file_opening.specs.Redoing.{KeepsRoot}
use Rattle.file_opening.proofs.Redoes.{Redoes}
use Rattle.file_opening.proofs.redo_batches.redo_batch.Given as goal

abbrev pub invariant-loop-logged : goal.invariant-loop-logged
invariant-loop-logged g l = record {
  redoes : (rest : List (LoggedUpdate g.row.K)) → Redoes g.D.Disk l.initial.file l.file (l.updates ++ rest) (drop l.logged-index l.updates ++ rest);
  root : KeepsRoot l.initial.file.books l.file.books;
  changes : Changes g.D.Disk KeepsLength l.initial.file.disk l.file.disk;
  front : l.file.books.front ≡ l.initial.file.books.front + l.logged-index;
  none : l.file.claimed ≡ [];
  room : HasRoomFor l.initial.file.books.shape l.room;
}
