use Rattle.std.proofs.Common.{◌≡◌, ◌+◌, ◌*◌, length, min}
use Rattle.std.specs.Prelude.{IsTrue}
use Rattle.grid_types.specs.declared.sizes.TheConstants.{WORDS_ON_PAGE}
use Rattle.grid_model.specs.Lists.{product}
use Rattle.disk_trait.specs.Calls.{OnlyReads}
use Rattle.grid_check.specs.Reads.{AreNamed}
use Rattle.grid_check.specs.Rules.{HasPart, PartsKeep}
use Rattle.grid_check.proofs.parts.first_bad_part.Given as goal

abbrev pub invariant-loop-part : goal.invariant-loop-part
invariant-loop-part g l = record {
  good : IsTrue (g.D.Disk.honest l.initial.disk) → PartsKeep (HasPart l.geometry.shape (g.D.Disk.seen l.initial.disk) l.dims.intervals l.parts.items) l.part;
  named : IsTrue (g.D.Disk.honest l.initial.disk) → AreNamed l.geometry.shape (g.D.Disk.seen l.initial.disk) l.parts.items l.names (min (WORDS_ON_PAGE * l.part) (product l.dims.intervals));
  cells : length l.names ≡ length l.initial.names;
  same : OnlyReads g.D.Disk l.initial.disk l.disk;
  ticks : l.steps ≡ l.initial.steps + l.part;
}
