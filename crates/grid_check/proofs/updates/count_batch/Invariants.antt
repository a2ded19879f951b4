use Rattle.std.proofs.Common.{take}
use Rattle.grid_check.specs.Marks.{CountsRecords}
use Rattle.grid_check.proofs.updates.count_batch.Given as goal

abbrev pub invariant-loop-logged : goal.invariant-loop-logged
invariant-loop-logged g l = CountsRecords (take l.logged-index l.updates) l.initial.marks l.marks l.records l.left
