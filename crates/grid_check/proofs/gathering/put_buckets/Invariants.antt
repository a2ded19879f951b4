use Rattle.std.proofs.Common.{◌≡◌, ◌≤◌, ◌+◌, flat_map, length, take}
use Rattle.std.specs.Prelude.{IsTrue}
use Rattle.grid_model.specs.Buckets.{SpellsBucket}
use Rattle.grid_model.specs.Images.{entry_page}
use Rattle.grid_model.specs.Lawful.{pages_named}
use Rattle.bucket_page.specs.OnPage.{bucket_told}
use Rattle.disk_trait.specs.Calls.{OnlyReads}
use Rattle.grid_check.specs.Dumps.{put_all, rows_told}
use Rattle.grid_check.specs.Marks.{numbers_below}
use Rattle.grid_check.specs.Rules.{HasBucket, NumbersKeep}
use Rattle.grid_check.proofs.gathering.put_buckets.Given as goal

abbrev pub invariant-loop-number : goal.invariant-loop-number
invariant-loop-number g l = record {
  good : IsTrue (g.D.Disk.honest l.initial.disk) → NumbersKeep l.pages.items (HasBucket g.row.K l.geometry.shape (g.D.Disk.seen l.initial.disk) l.pages.items) l.number;
  told : IsTrue (g.D.Disk.honest l.initial.disk) → NumbersKeep l.pages.items (λ n. SpellsBucket l.geometry.shape.capacity (entry_page l.geometry.shape (g.D.Disk.seen l.initial.disk) l.pages.items n) (bucket_told g.row.K (entry_page l.geometry.shape (g.D.Disk.seen l.initial.disk) l.pages.items n))) l.number;
  put : IsTrue (g.D.Disk.honest l.initial.disk) → l.table.entries ≡ put_all l.initial.table.entries (flat_map (rows_told g.row.K l.geometry.shape (g.D.Disk.seen l.initial.disk) l.pages.items) (numbers_below l.pages.items l.number));
  same : OnlyReads g.D.Disk l.initial.disk l.disk;
  ticks : l.steps ≤ l.initial.steps + length (pages_named (take l.number l.pages.items));
}
