-- The cells of a directory part, and which parts hold a cell of a region.
use Rattle.std.proofs.Common.{◌≡◌, ◌<◌, ◌≤◌, ◌+◌, ◌*◌, ◌/◌, ◌==◌, ℕ, Bool, true, false, List, length, get_or, slice_get, Some, Contains, refl, sym, ap, ◌∙◌, subst, arith, true≢false, eq-eqb}
use Rattle.std.proofs.lemmas.List.Folds.{list_any_at}
use Rattle.std.proofs.lemmas.List.{length-map}
use Rattle.std.specs.List.{list_any}
use Rattle.grid_types.specs.declared.region.Region.{Region}
use Rattle.grid_types.specs.declared.sizes.TheConstants.{WORDS_ON_PAGE}
use Rattle.grid_types.specs.Keys.{IsKey}
use Rattle.grid_types.specs.Regions.{contains}
use Rattle.grid_model.specs.Lists.{below, is_among}
use Rattle.grid_model.specs.Scales.{is_scale, intervals, scale_of}
use Rattle.grid_model.specs.Cells.{dims, parts, part_of, all_cells, cells_of, cell_of, corner, parts_holding}
use Rattle.grid_model.specs.ScaleLaws.{IsCell}
use Rattle.grid_model.proofs.CellLaws.{have-indices}
use Rattle.grid_model.proofs.LowestKeys.{corner-lies, corner-long, corner-number}
use Rattle.grid_model.proofs.Members.{contains-filter, contains-range, among-from-contains}

-- the part of a cell of the region holds one
holds-cell : {K : ℕ} (scales : List (List ℕ)) (r : Region K) (cell : List ℕ) (p : ℕ) → Contains (cells_of scales r) cell → part_of scales cell ≡ p → p < parts scales → is_among (parts_holding scales r) p ≡ true
holds-cell scales r cell p there is within =
    among-from-contains (parts_holding scales r) p
    (contains-filter (λ q. list_any (λ c. part_of scales c == q) (cells_of scales r)) (below (parts scales)) p
    (contains-range 0 (parts scales) p (omega arith) (omega (arith, within)))
    (list_any_at (λ c. part_of scales c == p) (cells_of scales r) there.0 cell there.1 (eq-eqb (part_of scales (get_or (cells_of scales r) there.0 cell)) p (ap (part_of scales) there.2 ∙ is))))

-- a cell stands at a place of the directory: its lowest key is a key that lies in it, and its part is that of the place
pub record IsPlaced (K : ℕ) (scales : List (List ℕ)) (i : ℕ) (cell : List ℕ) : Type 0 where
  pub key : IsKey K (corner scales cell)
  pub lies : cell_of scales (corner scales cell) ≡ cell
  pub part : part_of scales cell ≡ i / WORDS_ON_PAGE

module _ (K : ℕ) (scales : List (List ℕ)) (count : length scales ≡ K) (ascend : (a : ℕ) → a < K → is_scale (scale_of scales a) ≡ true) where
  each-scale : (a : ℕ) → a < length scales → is_scale (scale_of scales a) ≡ true
  each-scale a p = ascend a (omega (arith, p, count))

  -- the lowest key of a cell is a key
  corner-key : (cell : List ℕ) → IsCell (dims scales) cell → IsKey K (corner scales cell)
  corner-key cell c = record {
    count = corner-long scales cell (c.count ∙ length-map scales intervals) ∙ count;
    in_range = λ a. let most = corner-number scales cell each-scale a in omega (arith, most);
  }

  -- each cell stands at its place
  pub placed : (i : ℕ) (cell : List ℕ) → slice_get (all_cells scales) i ≡ Some cell → IsPlaced K scales i cell
  placed i cell e =
      let found = (have-indices K).index_of scales i cell e in
      record { key = corner-key cell found.0; lies = corner-lies scales cell each-scale found.0; part = ap (λ x. x / WORDS_ON_PAGE) found.1 }

  -- where a part holds no cell of the region, the region has the lowest key of none of the part's cells
  pub out-of-region : (r : Region K) (p i : ℕ) (cell : List ℕ) → slice_get (all_cells scales) i ≡ Some cell → WORDS_ON_PAGE * p ≤ i → i < WORDS_ON_PAGE * p + WORDS_ON_PAGE → p < parts scales → is_among (parts_holding scales r) p ≡ false
      → contains r (corner scales cell) ≡ false
  out-of-region r p i cell e low high within out = by (contains r (corner scales cell)) refl
    where
      at : IsPlaced K scales i cell
      at = placed i cell e

      held : contains r (corner scales cell) ≡ true → is_among (parts_holding scales r) p ≡ true
      held has =
          let there : Contains (cells_of scales r) cell = subst (Contains (cells_of scales r)) at.lies ((have-indices K).region scales r (corner scales cell) (at.key.count ∙ sym count) has) in
          holds-cell scales r cell p there (at.part ∙ omega (arith, low, high)) within

      by : (t : Bool) → contains r (corner scales cell) ≡ t → t ≡ false
      by true has = absurd (true≢false (sym (held has) ∙ out))
      by false has = refl
