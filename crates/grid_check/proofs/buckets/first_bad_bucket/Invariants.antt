use Rattle.std.proofs.Common.{◌≡◌, ◌≤◌, ◌+◌, length, take}
use Rattle.std.specs.Prelude.{IsTrue}
use Rattle.grid_model.specs.Lawful.{pages_named}
use Rattle.disk_trait.specs.Calls.{OnlyReads}
use Rattle.grid_check.specs.Marks.{MarksKeys, keys_below}
use Rattle.grid_check.specs.Reads.{AreHeld}
use Rattle.grid_check.specs.Rules.{HasBucket, NumbersKeep}
use Rattle.grid_check.proofs.buckets.first_bad_bucket.Given as goal

abbrev pub invariant-loop-number : goal.invariant-loop-number
invariant-loop-number g l = record {
  good : IsTrue (g.D.Disk.honest l.initial.disk) → NumbersKeep l.table.items (HasBucket g.row.K l.geometry.shape (g.D.Disk.seen l.initial.disk) l.table.items) l.number;
  held : IsTrue (g.D.Disk.honest l.initial.disk) → AreHeld l.geometry.shape (g.D.Disk.seen l.initial.disk) l.table.items l.holdings l.number;
  marked : IsTrue (g.D.Disk.honest l.initial.disk) → MarksKeys (keys_below g.row.K l.geometry.shape (g.D.Disk.seen l.initial.disk) l.table.items l.number) l.initial.marks l.marks;
  room : length l.holdings ≡ length l.initial.holdings;
  same : OnlyReads g.D.Disk l.initial.disk l.disk;
  ticks : l.steps ≤ l.initial.steps + length (pages_named (take l.number l.table.items));
}
