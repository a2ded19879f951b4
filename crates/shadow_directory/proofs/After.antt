-- The cells of each part after a change of a layout are those after the directory's change.
use Rattle.std.proofs.Common.{◌≡◌, ◌<◌, ◌+◌, ◌*◌, ℕ, true, T, List, map, length, slice_index, Some, refl, sym, ap, ◌∙◌, subst, arith, nat_cmp, option_map}
use Rattle.std.proofs.lemmas.List.{length-map}
use Rattle.std.proofs.lemmas.Option.{get_or_from_slice_get, slice_get-map}
use Rattle.std.specs.FinMap.Entries.{is_sorted}
use Rattle.std.specs.Option.{option_map_or}
use Rattle.grid_types.specs.Regions.{contains}
use Rattle.grid_model.specs.Lists.{product}
use Rattle.grid_model.specs.Cells.{dims, corner, all_cells, cell_index}
use Rattle.grid_model.specs.ScaleLaws.{IsCell}
use Rattle.grid_model.specs.Layouts.{BucketBox, Layout, box, Apart, number_at, directory, directory_part}
use Rattle.grid_model.proofs.CellLaws.{have-indices}
use Rattle.directory_pages.specs.CellBoxes.{cells_on}
use Rattle.directory_changes.specs.Changes.{dims_after}
use Rattle.directory_changes.specs.declared.change.DirectoryChange.{DirectoryChange}
use Rattle.history_pages.proofs.Names.{has-holder}
use Rattle.shadow_directory.specs.Directories.{part_of, source_of, Names, bucket_of, IsPartAfter}
use Rattle.shadow_directory.proofs.Spelled.{length-part, part-cell}

-- the directory has as many cells as there are
pub directory-long : {K : ℕ} (L : Layout K) → length (directory L) ≡ product (dims L.scales)
unfolding directory
directory-long {K} L = length-map (all_cells L.scales) (λ cell. number_at L (corner L.scales cell)) ∙ (have-indices K).count L.scales

-- a cell has the number of the box that has its lowest key
pub directory-cell : {K : ℕ} (L : Layout K) (cell : List ℕ) → IsCell (dims L.scales) cell → slice_index (directory L) (cell_index (dims L.scales) cell) ≡ number_at L (corner L.scales cell)
unfolding directory
directory-cell {K} L cell c =
    let name : List ℕ → ℕ = λ x. number_at L (corner L.scales x) in
    let at = cell_index (dims L.scales) cell in
    get_or_from_slice_get (map name (all_cells L.scales)) at (name cell) 0
    (slice_get-map name (all_cells L.scales) at ∙ ap (option_map name) ((have-indices K).cell_there L.scales cell c))

pub part-is : {K : ℕ} (L : Layout K) (p : ℕ) → directory_part L p ≡ part_of (directory L) p
unfolding directory_part
part-is L p = refl

-- the box of this number has the key, so the key names it
pub names-it : {K : ℕ} (M : Layout K) (k : List ℕ) (n : ℕ) (d : BucketBox K) → T (is_sorted nat_cmp M.boxes) → Apart M → box M n ≡ Some d → contains d.region k ≡ true → number_at M k ≡ n
names-it M k n d sorted apart there has = ap (λ o. option_map_or (λ e. e.0) o 0) (has-holder M k n sorted apart (record { here = d; there = there; has = has }))

-- the names of the cells after a change
pub record NamesAfter {K : ℕ} (L M : Layout K) (change : DirectoryChange K) : Type 0 where
  pub dims_are : dims M.scales ≡ dims_after (dims L.scales) change
  pub source : (cell : List ℕ) → IsCell (dims M.scales) cell → IsCell (dims L.scales) (source_of change cell)
  pub named : (cell : List ℕ) → IsCell (dims M.scales) cell → Names change cell → number_at M (corner M.scales cell) ≡ bucket_of change
  pub others : (cell : List ℕ) → IsCell (dims M.scales) cell → (Names change cell → ⊥) → number_at M (corner M.scales cell) ≡ number_at L (corner L.scales (source_of change cell))

-- by them, the cells of a part are those after the directory's change
pub part-after : {K : ℕ} (L M : Layout K) (change : DirectoryChange K) (p : ℕ) → NamesAfter L M change → IsPartAfter (dims L.scales) change (directory L) p (directory_part M p)
part-after {K} L M change p n = record {
  count = long ∙ ap (λ ns. cells_on ns p) n.dims_are;
  named = λ k cell lt c at in_it. let h = here cell c in is k cell lt h (at-index k cell at) ∙ n.named cell h in_it;
  others = λ k cell lt c at out.
      let h = here cell c in
      is k cell lt h (at-index k cell at) ∙ n.others cell h out ∙ sym (directory-cell L (source_of change cell) (n.source cell h));
}
  where
    long : length (directory_part M p) ≡ cells_on (dims M.scales) p
    long = ap length (part-is M p) ∙ length-part (dims M.scales) (directory M) p (directory-long M)

    here : (cell : List ℕ) → IsCell (dims_after (dims L.scales) change) cell → IsCell (dims M.scales) cell
    here cell c = subst (λ ns. IsCell ns cell) (sym n.dims_are) c

    at-index : (k : ℕ) (cell : List ℕ) → cell_index (dims_after (dims L.scales) change) cell ≡ 1000 * p + k → cell_index (dims M.scales) cell ≡ 1000 * p + k
    at-index k cell e = ap (λ ns. cell_index ns cell) n.dims_are ∙ e

    is : (k : ℕ) (cell : List ℕ) → k < length (directory_part M p) → IsCell (dims M.scales) cell → cell_index (dims M.scales) cell ≡ 1000 * p + k → slice_index (directory_part M p) k ≡ number_at M (corner M.scales cell)
    is k cell lt c e =
        ap (λ xs. slice_index xs k) (part-is M p) ∙ part-cell (directory M) p k (omega (arith, lt, long)) ∙ ap (slice_index (directory M)) (sym e) ∙ directory-cell M cell c
