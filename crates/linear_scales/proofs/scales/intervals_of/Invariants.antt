use Rattle.std.proofs.Common.{◌≡◌, ◌<◌, ℕ, length, get_or, slice_index}
use Rattle.grid_model.specs.Scales.{interval}
use Rattle.linear_scales.specs.Limited.{LimitedScale}
use Rattle.linear_scales.proofs.scales.intervals_of.Given as goal

abbrev pub invariant-loop-a : goal.invariant-loop-a
invariant-loop-a g l = record {
  count : length l.cell ≡ g.row.K;
  each : (k : ℕ) → k < l.a → (d : LimitedScale) → slice_index l.cell k ≡ interval (get_or l.scales k d).boundaries (slice_index l.numbers k);
}
