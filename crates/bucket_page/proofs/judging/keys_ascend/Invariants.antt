use Rattle.bucket_page.specs.Judging.{KeysAscend}
use Rattle.bucket_page.proofs.judging.keys_ascend.Given as goal

abbrev pub invariant-loop-i : goal.invariant-loop-i
invariant-loop-i g l = KeysAscend g.row.K l.page l.i
