use Rattle.bucket_page.specs.Judging.{AreRecordsIn}
use Rattle.bucket_page.proofs.judging.are_records.Given as goal

abbrev pub invariant-loop-i : goal.invariant-loop-i
invariant-loop-i g l = AreRecordsIn g.row.K l.page l.region l.i
