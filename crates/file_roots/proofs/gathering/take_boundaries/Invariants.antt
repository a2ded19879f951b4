use Rattle.std.proofs.Common.{◌≡◌, ℕ, List, take, slice_set, IsTrue}
use Rattle.grid_model.specs.Scales.{is_scale, scale_of}
use Rattle.linear_scales.specs.Limited.{scales_of, limits_of}
use Rattle.root_pages.specs.Reading.{AreOn}
use Rattle.file_roots.specs.Gathering.{longer_scale}
use Rattle.file_roots.proofs.gathering.take_boundaries.Given as goal

abbrev pub invariant-loop-i : goal.invariant-loop-i
invariant-loop-i g l = record {
  taken : (xs : List ℕ) → AreOn 8 l.count l.page xs → scales_of l.scales ≡ slice_set (scales_of l.initial.scales) l.a (longer_scale (scales_of l.initial.scales) l.a (take l.i xs));
  scale : IsTrue (is_scale (scale_of (scales_of l.initial.scales) l.a)) → (xs : List ℕ) → AreOn 8 l.count l.page xs → IsTrue (is_scale (longer_scale (scales_of l.initial.scales) l.a (take l.i xs)));
  limits : limits_of l.scales ≡ limits_of l.initial.scales;
}
