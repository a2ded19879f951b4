use Rattle.std.proofs.Common.{◌≡◌, ◌≤◌, take}
use Rattle.file_state.proofs.rooting.tell_parts.Given as goal

abbrev pub invariant-loop-i : goal.invariant-loop-i
invariant-loop-i l = record {
  same : l.parts.items ≡ take l.i l.numbers;
  room : l.initial.parts.room ≤ l.parts.room;
}
