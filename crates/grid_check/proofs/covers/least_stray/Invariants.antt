use Rattle.std.proofs.Common.{slice_index}
use Rattle.linear_scales.specs.Limited.{scales_of}
use Rattle.grid_check.specs.Covers.{region_under, IsLeastStray}
use Rattle.grid_check.proofs.covers.least_stray.Given as goal

abbrev pub invariant-loop-at : goal.invariant-loop-at
invariant-loop-at g l = record {
  least : IsLeastStray (scales_of l.scales) (λ i. slice_index l.names i) (region_under {K = g.row.K} l.holdings) l.at l.least;
}
