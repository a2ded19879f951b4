use Rattle.std.proofs.Common.{take}
use Rattle.grid_check.specs.Marks.{HaveMarks, NoneMarked}
use Rattle.grid_check.proofs.Counted.{updates_of}
use Rattle.grid_check.proofs.updates.keys_named.Given as goal

abbrev pub invariant-loop-batch : goal.invariant-loop-batch
invariant-loop-batch g l = record {
  named : HaveMarks l.marks (updates_of (take l.batch-index l.batch-items));
  unmarked : NoneMarked l.marks;
}
