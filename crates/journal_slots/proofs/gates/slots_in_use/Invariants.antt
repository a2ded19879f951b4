use Rattle.journal_slots.proofs.LastGates.{AreUpToLast}
use Rattle.journal_slots.proofs.gates.slots_in_use.Given as goal

abbrev pub invariant-loop-i : goal.invariant-loop-i
invariant-loop-i l = record { used : AreUpToLast l.gates l.i l.used }
