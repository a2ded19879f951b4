use Rattle.directory_changes.proofs.Walked.{Walked}
use Rattle.directory_changes.proofs.boxes.least_from.Given as goal

abbrev pub invariant-loop-a : goal.invariant-loop-a
invariant-loop-a g l = Walked l.intervals l.cells.lo l.cells.hi l.from l.a l.rest l.size l.lowest l.least
