use Rattle.shadow_directory.proofs.Imaged.{IsLeastNeeded}
use Rattle.shadow_directory.proofs.images.next_needed.Given as goal

abbrev pub invariant-loop-k : goal.invariant-loop-k
invariant-loop-k l = IsLeastNeeded l.images l.k l.from l.next
