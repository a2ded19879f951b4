use Rattle.std.proofs.Common.{◌≡◌}
use Rattle.file_state.specs.Memories.{books_of, AreUsedBelow}
use Rattle.file_state.proofs.reading.find_unused.Given as goal

abbrev pub invariant-loop-number : goal.invariant-loop-number
invariant-loop-number g l = record {
  same : l.memory ≡ l.initial.memory;
  used : AreUsedBelow (books_of l.memory) l.number;
}
