use Rattle.std.proofs.Common.{take}
use Rattle.grid_check.specs.Marks.{HaveMarks, KeepsMarks, NoneMarked}
use Rattle.grid_check.proofs.updates.name_keys.Given as goal

abbrev pub invariant-loop-logged : goal.invariant-loop-logged
invariant-loop-logged g l = record {
  named : HaveMarks l.marks (take l.logged-index l.updates);
  keeps : KeepsMarks l.initial.marks l.marks;
  unmarked : NoneMarked l.initial.marks → NoneMarked l.marks;
}
