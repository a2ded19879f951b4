use Rattle.std.proofs.Common.{◌≡◌, ◌<◌, ℕ, length, min, slice_index}
use Rattle.grid_types.proofs.touching.lower_each.Given as goal

abbrev pub invariant-loop-a : goal.invariant-loop-a
invariant-loop-a g l = record {
  count : length l.lower ≡ g.row.K;
  each : (k : ℕ) → k < l.a → slice_index l.lower k ≡ min (slice_index l.these k) (slice_index l.those k);
}
