-- What is asked of a cut, whatever the page says of which it is made.
use Rattle.std.specs.Prelude.{◌≡◌, ℕ, List, not, IsTrue}
use Rattle.grid_types.specs.declared.layout_change.Cut.{Cut}
use Rattle.grid_types.specs.declared.region.Region.{Region}
use Rattle.grid_types.specs.declared.shape.Shape.{Shape}
use Rattle.grid_types.specs.Regions.{is_within}
use Rattle.grid_model.specs.Lists.{is_among}
use Rattle.grid_model.specs.Scales.{scale_of}
use Rattle.grid_model.specs.Cuts.{may_grow}

-- a cut lies within a region, is fresh exactly where it is at no boundary of its scale, and where it is fresh the scale and the directory may grow
pub record IsCutWithin {K : ℕ} (shape : Shape) (scales : List (List ℕ)) (region : Region K) (c : Cut) : Type 0 where
  pub within : IsTrue (is_within region c.attribute c.value)
  pub fresh : c.fresh ≡ not (is_among (scale_of scales c.attribute) c.value)
  pub grows : IsTrue c.fresh → IsTrue (may_grow shape scales c.attribute)
