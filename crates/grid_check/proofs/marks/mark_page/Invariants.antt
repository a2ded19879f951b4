use Rattle.std.proofs.Common.{take}
use Rattle.bucket_page.specs.OnPage.{OfBucket}
use Rattle.grid_check.specs.Marks.{keys_in, MarksKeys}
use Rattle.grid_check.proofs.marks.mark_page.Given as goal

abbrev pub invariant-loop-i : goal.invariant-loop-i
invariant-loop-i g l = OfBucket g.row.K l.page l.count (λ b. MarksKeys (keys_in (take l.i b.rows)) l.initial.marks l.marks)
