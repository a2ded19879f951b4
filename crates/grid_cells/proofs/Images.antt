-- A cell of a refined directory lies in its image.
use Rattle.std.proofs.Common.{◌≡◌, ◌≢◌, ◌<◌, ◌⊎◌, inl, inr, ℕ, true, List, [], length, sym, ap, ◌∙◌, subst, arith}
use Rattle.std.proofs.lemmas.Bool.{cases_eq}
use Rattle.std.proofs.lemmas.List.{get_or-set_same, get_or-set_other, length-set, length-map}
use Rattle.grid_model.specs.Scales.{is_scale, interval, intervals, scale_of, refined, refined_at}
use Rattle.grid_model.specs.Cells.{dims, cell_of, corner, image_of}
use Rattle.grid_model.specs.ScaleLaws.{IsCell}
use Rattle.grid_model.proofs.ScaleLaws.{refined-ascends}
use Rattle.grid_model.proofs.CellLaws.{key-has-cell, old-cell}
use Rattle.grid_model.proofs.LowestKeys.{corner-lies, corner-long}
use Rattle.grid_cells.specs.Laws.{IsRefinement, LieInImages}

-- the refined scales are scales
pub refined-lawful : (scales : List (List ℕ)) (a v : ℕ) → IsRefinement scales a v → (b : ℕ) → b < length (refined_at scales a v) → is_scale (scale_of (refined_at scales a v) b) ≡ true
refined-lawful scales a v r b p = by (cases_eq b a)
  where
    within : b < length scales
    within = omega (arith, p, length-set scales a (refined (scale_of scales a) v))

    by : (b ≡ a) ⊎ (b ≢ a) → is_scale (scale_of (refined_at scales a v) b) ≡ true
    by (inl e) =
        ap (λ j. is_scale (scale_of (refined_at scales a v) j)) e
        ∙ ap is_scale (get_or-set_same scales a (refined (scale_of scales a) v) [] r.attribute)
        ∙ refined-ascends v 1 (scale_of scales a) r.greatest (r.scales_lawful a r.attribute) r.least
    by (inr d) = ap is_scale (get_or-set_other scales a b (refined (scale_of scales a) v) [] d) ∙ r.scales_lawful b within

module _ (scales : List (List ℕ)) (a v : ℕ) (cell : List ℕ) (r : IsRefinement scales a v) (c : IsCell (dims (refined_at scales a v)) cell) where
  -- the lowest key of a cell has a number for each attribute
  pub key-long : length (corner (refined_at scales a v) cell) ≡ length scales
  key-long =
      corner-long (refined_at scales a v) cell (c.count ∙ length-map (refined_at scales a v) intervals)
      ∙ length-set scales a (refined (scale_of scales a) v)

  -- it lies in the image
  pub lowest-key : cell_of scales (corner (refined_at scales a v) cell) ≡ image_of cell a (interval (scale_of scales a) v)
  lowest-key =
      sym (old-cell scales (corner (refined_at scales a v) cell) a v key-long r.attribute (r.scales_lawful a r.attribute) r.fresh)
      ∙ ap (λ x. image_of x a (interval (scale_of scales a) v)) (corner-lies (refined_at scales a v) cell (refined-lawful scales a v r) c)

  -- the image is a cell
  pub image-is-cell : IsCell (dims scales) (image_of cell a (interval (scale_of scales a) v))
  image-is-cell = subst (IsCell (dims scales)) lowest-key (key-has-cell scales (corner (refined_at scales a v) cell) key-long)

-- each cell lies in its image
pub lie-in-images : LieInImages
lie-in-images = record { is_cell = image-is-cell; lowest_key = lowest-key }
