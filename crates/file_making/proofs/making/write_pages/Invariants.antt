use Rattle.std.proofs.Common.{IsTrue}
use Rattle.disk_trait.specs.Calls.{Changes}
use Rattle.file_making.specs.Making.{FileAlone}
use Rattle.file_making.proofs.Growing.{PagesBelow}
use Rattle.file_making.proofs.making.write_pages.Given as goal

abbrev pub invariant-loop-number : goal.invariant-loop-number
invariant-loop-number g l = record {
  changes : Changes g.D.Disk (FileAlone l.geometry.shape) l.initial.disk l.disk;
  pages : IsTrue (g.D.Disk.honest l.initial.disk) → PagesBelow l.geometry.shape.k l.geometry.shape l.number (g.D.Disk.seen l.disk);
}
