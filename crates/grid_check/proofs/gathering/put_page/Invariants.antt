use Rattle.std.proofs.Common.{◌≡◌, take}
use Rattle.bucket_page.specs.OnPage.{OfBucket}
use Rattle.grid_check.specs.Dumps.{put_all}
use Rattle.grid_check.proofs.gathering.put_page.Given as goal

abbrev pub invariant-loop-i : goal.invariant-loop-i
invariant-loop-i g l = OfBucket g.row.K l.page l.count (λ b. l.table.entries ≡ put_all l.initial.table.entries (take l.i b.rows))
