use Rattle.std.proofs.Common.{◌≡◌, ◌<◌, ℕ, length, get_or}
use Rattle.grid_model.specs.Scales.{scale_of}
use Rattle.linear_scales.specs.Limited.{scales_of}
use Rattle.file_roots.proofs.root.fields.Given as goal

abbrev pub invariant-loop-a : goal.invariant-loop-a
invariant-loop-a g l = record {
  count : length l.boundaries.items ≡ l.a;
  each : (k d : ℕ) → k < length l.boundaries.items → get_or l.boundaries.items k d ≡ length (scale_of (scales_of l.root.scales) k);
}
