use Rattle.std.proofs.Common.{◌<◌, ℕ, IsTrue, slice_index}
use Rattle.linear_scales.specs.Limited.{scales_of}
use Rattle.grid_model.specs.Scales.{scale_of, is_drawn}
use Rattle.grid_check.proofs.faces.has_faces.Given as goal

abbrev pub invariant-loop-a : goal.invariant-loop-a
invariant-loop-a g l = record {
  each : (a : ℕ) → a < l.a → IsTrue (is_drawn (scale_of (scales_of l.scales) a) (slice_index l.region.lo a) (slice_index l.region.hi a));
}
