use Rattle.shadow_directory.proofs.Imaged.{TakenBelow}
use Rattle.shadow_directory.proofs.images.take_buckets.Given as goal

abbrev pub invariant-loop-k : goal.invariant-loop-k
invariant-loop-k l = TakenBelow l.images l.part l.k l.page l.initial.buckets l.buckets
