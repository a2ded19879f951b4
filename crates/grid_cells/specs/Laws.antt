-- What a refinement keeps.
use Rattle.std.specs.Prelude.{◌≡◌, ◌<◌, ◌≤◌, ℕ, List, false, length, IsTrue, T}
use Rattle.std.specs.Ordering.{nat_cmp}
use Rattle.std.specs.FinMap.Entries.{is_sorted}
use Rattle.grid_model.specs.Lists.{is_among}
use Rattle.grid_types.specs.Keys.{top}
use Rattle.grid_model.specs.Scales.{scale_of, is_scale, interval, refined_at}
use Rattle.grid_model.specs.Cells.{dims, cell_of, corner, image_of}
use Rattle.grid_model.specs.ScaleLaws.{IsCell}
use Rattle.grid_model.specs.Layouts.{Layout, EachBox, IsDrawn, number_at}

-- a number is a fresh boundary for the scale of an attribute
pub record IsRefinement (scales : List (List ℕ)) (a v : ℕ) : Type 0 where
  pub scales_lawful : (b : ℕ) → b < length scales → IsTrue (is_scale (scale_of scales b))
  pub attribute : a < length scales
  pub fresh : is_among (scale_of scales a) v ≡ false
  pub least : 1 ≤ v
  pub greatest : v ≤ top

-- each cell of a refined directory lies in its image: the image is a cell of the directory before, and has the lowest key of the cell
pub record LieInImages : Type 0 where
  pub is_cell : (scales : List (List ℕ)) (a v : ℕ) (cell : List ℕ) → IsRefinement scales a v → IsCell (dims (refined_at scales a v)) cell → IsCell (dims scales) (image_of cell a (interval (scale_of scales a) v))
  pub lowest_key : (scales : List (List ℕ)) (a v : ℕ) (cell : List ℕ) → IsRefinement scales a v → IsCell (dims (refined_at scales a v)) cell → cell_of scales (corner (refined_at scales a v) cell) ≡ image_of cell a (interval (scale_of scales a) v)

-- a layout has a scale for each attribute, its boxes stand in the order of their numbers, and each bound of a box is an end of an interval
pub record IsDrawnLayout {K : ℕ} (L : Layout K) : Type 0 where
  pub attributes : length L.scales ≡ K
  pub numbered : T (is_sorted nat_cmp L.boxes)
  pub drawn : EachBox L (λ n b. IsDrawn L.scales b)

-- each cell of a refined directory names the box that its image names, where each bound of a box is an end of an interval
pub record NamesStay : Type 0 where
  pub same : {K : ℕ} (L : Layout K) (a v : ℕ) (cell : List ℕ) → IsDrawnLayout L → IsRefinement L.scales a v → IsCell (dims (refined_at L.scales a v)) cell
      → number_at L (corner (refined_at L.scales a v) cell) ≡ number_at L (corner L.scales (image_of cell a (interval (scale_of L.scales a) v)))
