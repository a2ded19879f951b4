-- A cell of a refined directory names the box that its image names.
use Rattle.std.proofs.Common.{◌≡◌, ◌<◌, ℕ, true, List, length, sym, ap, ◌∙◌}
use Rattle.std.proofs.lemmas.List.{length-map}
use Rattle.std.specs.Option.{option_map_or}
use Rattle.grid_types.specs.Regions.{contains}
use Rattle.grid_model.specs.Scales.{is_scale, interval, intervals, scale_of, refined_at}
use Rattle.grid_model.specs.Cells.{dims, corner, image_of}
use Rattle.grid_model.specs.ScaleLaws.{IsCell}
use Rattle.grid_model.specs.Layouts.{Layout, holder, number_at}
use Rattle.grid_model.proofs.Holders.{same-found}
use Rattle.grid_model.proofs.LowestKeys.{corner-lies, corner-long, corner-number}
use Rattle.grid_model.proofs.OneCell.{InOneCell, box-alike}
use Rattle.grid_cells.specs.Laws.{IsRefinement, IsDrawnLayout, NamesStay}
use Rattle.grid_cells.proofs.Images.{refined-lawful, key-long, lowest-key, image-is-cell}

-- two keys of one cell are in the same box
same-holder : {K : ℕ} (L : Layout K) (k q : List ℕ) → IsDrawnLayout L → ((a : ℕ) → a < length L.scales → is_scale (scale_of L.scales a) ≡ true) → InOneCell L.scales k q → holder L k ≡ holder L q
unfolding holder
same-holder L k q h f o = same-found (λ e. contains e.1.region k) (λ e. contains e.1.region q) L.boxes h.numbered (λ n b there. box-alike L.scales b h.attributes f (h.drawn n b there) k q o)

module _ {K : ℕ} (L : Layout K) (a v : ℕ) (cell : List ℕ) (h : IsDrawnLayout L) (r : IsRefinement L.scales a v) (c : IsCell (dims (refined_at L.scales a v)) cell) where
  -- what the cell was
  abbrev image : List ℕ
  image = image_of cell a (interval (scale_of L.scales a) v)

  image-cell : IsCell (dims L.scales) image
  image-cell = image-is-cell L.scales a v cell r c

  lowest-keys : InOneCell L.scales (corner (refined_at L.scales a v) cell) (corner L.scales image)
  lowest-keys = record {
    first_long = key-long L.scales a v cell r c;
    second_long = corner-long L.scales image (image-cell.count ∙ length-map L.scales intervals);
    first_number = corner-number (refined_at L.scales a v) cell (refined-lawful L.scales a v r);
    second_number = corner-number L.scales image r.scales_lawful;
    same = lowest-key L.scales a v cell r c ∙ sym (corner-lies L.scales image r.scales_lawful image-cell);
  }

  same-name : number_at L (corner (refined_at L.scales a v) cell) ≡ number_at L (corner L.scales image)
  same-name = ap (λ o. option_map_or (λ e. e.0) o 0) (same-holder L (corner (refined_at L.scales a v) cell) (corner L.scales image) h r.scales_lawful lowest-keys)

-- each cell names the box that its image names
pub names-stay : NamesStay
names-stay = record { same = same-name }
