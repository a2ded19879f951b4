use Rattle.bucket_page.specs.Search.{AreBelow}
use Rattle.bucket_page.proofs.search.search.Given as goal

abbrev pub invariant-loop-i : goal.invariant-loop-i
invariant-loop-i g l = AreBelow l.key.numbers l.rows l.i
