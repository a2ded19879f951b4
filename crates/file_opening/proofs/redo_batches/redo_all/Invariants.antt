use Rattle.std.proofs.Common.{◌≡◌, ◌+◌, [], length, drop}
use Rattle.disk_trait.specs.Calls.{Changes}
use Rattle.checkpoints.specs.Disks.{KeepsLength}
use Rattle.file_images.specs.Leads.{updates_in}
use Rattle.file_updates.specs.Rooms.{HasRoomFor}
use Rattle.file_opening.specs.Redoing.{KeepsRoot}
use Rattle.file_opening.proofs.Redoes.{Redoes}
use Rattle.file_opening.proofs.redo_batches.redo_all.Given as goal

abbrev pub invariant-loop-batch : goal.invariant-loop-batch
invariant-loop-batch g l = record {
  redoes : Redoes g.D.Disk l.initial.file l.file (updates_in l.taken) (updates_in (drop l.batch-index l.taken));
  root : KeepsRoot l.initial.file.books l.file.books;
  changes : Changes g.D.Disk KeepsLength l.initial.file.disk l.file.disk;
  count : l.file.books.front + length (updates_in (drop l.batch-index l.taken)) ≡ l.initial.file.books.front + length (updates_in l.taken);
  none : l.file.claimed ≡ [];
  room : HasRoomFor l.initial.file.books.shape l.room;
}
