use Rattle.std.proofs.Common.{◌<◌, ℕ, slice_index}
use Rattle.linear_scales.specs.Limited.{scales_of}
use Rattle.grid_model.specs.Lists.{product}
use Rattle.grid_check.specs.Covers.{region_under, NoneStrays}
use Rattle.grid_check.specs.Rules.{NumbersKeep, IsNamedBy}
use Rattle.grid_check.proofs.covers.first_bad_cover.Given as goal

abbrev pub invariant-loop-number : goal.invariant-loop-number
invariant-loop-number g l = record {
  good : NumbersKeep l.table.items (λ m. IsNamedBy (scales_of l.scales) (λ i. slice_index l.names i) (region_under {K = g.row.K} l.holdings m) m) l.number;
  clear : (m : ℕ) → m < l.number → NoneStrays (scales_of l.scales) (λ i. slice_index l.names i) (region_under {K = g.row.K} l.holdings m) m (product l.dims.intervals);
}
