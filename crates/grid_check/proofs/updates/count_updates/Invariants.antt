use Rattle.std.proofs.Common.{take}
use Rattle.grid_check.specs.Marks.{CountsRecords}
use Rattle.grid_check.proofs.Counted.{updates_of}
use Rattle.grid_check.proofs.updates.count_updates.Given as goal

abbrev pub invariant-loop-batch : goal.invariant-loop-batch
invariant-loop-batch g l = CountsRecords (updates_of (take l.batch-index l.batch-items)) l.initial.marks l.marks l.records l.left
