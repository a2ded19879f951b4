use Rattle.std.proofs.Common.{◌≡◌, ◌+◌, IsTrue}
use Rattle.disk_trait.specs.Calls.{OnlyReads}
use Rattle.root_pages.specs.Fields.{model_fields}
use Rattle.file_roots.specs.Gathering.{HasGathered, MayBeGathered, HasRoom}
use Rattle.file_roots.proofs.reading.read_area.Given as goal

abbrev pub invariant-loop-i : goal.invariant-loop-i
invariant-loop-i g l = record {
  gathered : IsTrue (g.D.Disk.honest l.initial.disk) → HasGathered l.geometry.shape (g.D.Disk.seen l.initial.disk) (model_fields l.fields) 0 l.initial.gathered
      → HasGathered l.geometry.shape (g.D.Disk.seen l.initial.disk) (model_fields l.fields) l.i l.gathered;
  lawful : MayBeGathered l.geometry.shape (model_fields l.fields) 0 l.initial.gathered → MayBeGathered l.geometry.shape (model_fields l.fields) l.i l.gathered;
  room : HasRoom l.geometry.shape l.gathered;
  same : OnlyReads g.D.Disk l.initial.disk l.disk;
  ticks : l.steps ≡ l.initial.steps + l.i;
}
