use Rattle.std.proofs.Common.{◌≡◌, ◌<◌, ℕ, length}
use Rattle.std.specs.Prelude.{slice_index}
use Rattle.file_state.proofs.rooting.fill.Given as goal

abbrev pub invariant-loop-i : goal.invariant-loop-i
invariant-loop-i l = record {
  same : (k : ℕ) → k < l.i → slice_index l.list.items k ≡ slice_index l.numbers k;
  count : length l.list.items ≡ length l.initial.list.items;
  room : l.list.room ≡ l.initial.list.room;
}
