use Rattle.std.proofs.Common.{◌≡◌, ◌<◌, ℕ, length, get_or, slice_index}
use Rattle.grid_model.specs.Scales.{intervals}
use Rattle.linear_scales.specs.Limited.{LimitedScale}
use Rattle.linear_scales.proofs.scales.dims_of.Given as goal

abbrev pub invariant-loop-a : goal.invariant-loop-a
invariant-loop-a g l = record {
  count : length l.dims ≡ g.row.K;
  each : (k : ℕ) → k < l.a → (d : LimitedScale) → slice_index l.dims k ≡ intervals (get_or l.scales k d).boundaries;
}
