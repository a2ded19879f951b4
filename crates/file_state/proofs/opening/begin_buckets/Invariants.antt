use Rattle.grid_types.specs.declared.owner.Owner.TheVariants.{Bucket}
use Rattle.file_state.proofs.Beginning.{HasBegun}
use Rattle.file_state.proofs.opening.begin_buckets.Given as goal

abbrev pub invariant-loop-n : goal.invariant-loop-n
invariant-loop-n l = HasBegun Bucket l.at l.table l.initial.states l.states l.n
