use Rattle.std.proofs.Common.{◌≡◌, ◌<◌, ℕ, length, slice_index}
use Rattle.linear_scales.proofs.Keyed.{AreEndsAt}
use Rattle.linear_scales.proofs.scales.bounds_of.Given as goal

abbrev pub invariant-loop-a : goal.invariant-loop-a
invariant-loop-a g l = record {
  low : length l.lo ≡ g.row.K;
  high : length l.hi ≡ g.row.K;
  each : (k : ℕ) → k < l.a → AreEndsAt l.scales l.cell k (slice_index l.lo k) (slice_index l.hi k);
}
