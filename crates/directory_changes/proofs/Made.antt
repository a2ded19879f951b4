-- The directory's change from the layout's, and that it is one of the directory.
use Rattle.std.proofs.Common.{◌≡◌, ◌<◌, ◌≤◌, ℕ, Bool, true, false, cond, min, max, List, [], length, IsTrue, sym, ap, subst, ◌∙◌, arith}
use Rattle.std.proofs.lemmas.List.{length-map, get_or-map}
use Rattle.std.specs.Option.{unwrap_or}
use Rattle.grid_types.specs.declared.cell_box.CellBox.{CellBox}
use Rattle.grid_types.specs.declared.layout_change.Cut.{Cut}
use Rattle.grid_types.specs.declared.layout_change.LayoutChange.TheVariants as note
use Rattle.grid_types.specs.declared.region.Region.{Region}
use Rattle.grid_types.specs.declared.sizes.TheConstants.{MOST_CELLS}
use Rattle.grid_model.specs.Lists.{product}
use Rattle.grid_model.specs.Scales.{scale_of, is_scale, interval, intervals, refined_at}
use Rattle.grid_model.specs.Cells.{dims, cells}
use Rattle.grid_model.specs.Layouts.{BucketBox, Layout, box}
use Rattle.grid_model.specs.Notes.{right_of, scales_after}
use Rattle.grid_model.proofs.ScaleLaws.{few-intervals}
use Rattle.directory_changes.specs.Changes.{cell_box, directory_change, HasCorners, IsGrowth, grown}
use Rattle.directory_changes.specs.Fresh.{IsFreshFor}
use Rattle.directory_changes.specs.declared.change.DirectoryChange.{DirectoryChange}
use Rattle.directory_changes.specs.declared.change.DirectoryChange.TheVariants.{Patch, Grow}
use Rattle.directory_changes.proofs.Growing.{dims-refined}

module _ {K : ℕ} (L : Layout K) (e : ℕ × BucketBox K) (before after : List (List ℕ)) (region : Region K) (b : CellBox K) (is : b ≡ cell_box after region) where
  -- a cut at an existing boundary
  pub is-patch : (c : Cut) (right : ℕ) → c.fresh ≡ false → L.scales ≡ before → after ≡ scales_after L.scales c → region ≡ (right_of e.1 c).region → Patch b right ≡ directory_change L e (note.Cut c right)
  unfolding directory_change
  is-patch c right old scales later part =
      let same : after ≡ L.scales = later ∙ ap (λ f. cond f (refined_at L.scales c.attribute c.value) L.scales) old in
      let by : Bool → DirectoryChange K = λ f. cond f (Grow c.attribute (interval (scale_of L.scales c.attribute) c.value) (cell_box (scales_after L.scales c) (right_of e.1 c).region) right) (Patch (cell_box L.scales (right_of e.1 c).region) right) in
      ap (λ x. Patch x right) (is ∙ (λ i. cell_box (same i) (part i))) ∙ sym (ap by old)

  -- a cut at a fresh one
  pub is-grow : (c : Cut) (right i : ℕ) → c.fresh ≡ true → L.scales ≡ before → after ≡ scales_after L.scales c → region ≡ (right_of e.1 c).region → i ≡ interval (scale_of before c.attribute) c.value
      → Grow c.attribute i b right ≡ directory_change L e (note.Cut c right)
  unfolding directory_change
  is-grow c right i fresh scales later part there =
      let by : Bool → DirectoryChange K = λ f. cond f (Grow c.attribute (interval (scale_of L.scales c.attribute) c.value) (cell_box (scales_after L.scales c) (right_of e.1 c).region) right) (Patch (cell_box L.scales (right_of e.1 c).region) right) in
      (λ j. Grow c.attribute ((there ∙ ap (λ x. interval (scale_of x c.attribute) c.value) (sym scales)) j) ((is ∙ (λ k. cell_box (later k) (part k))) j) right)
      ∙ sym (ap by fresh)

-- a merge
pub is-merge : {K : ℕ} (L : Layout K) (e : ℕ × BucketBox K) (m : ℕ) (scales : List (List ℕ)) (region : Region K) (b : CellBox K) (x : ℕ) → b ≡ cell_box scales region → L.scales ≡ scales → region ≡ (unwrap_or (box L (max e.0 m)) e.1).region → x ≡ min e.0 m
    → Patch b x ≡ directory_change L e (note.Merge m)
unfolding directory_change
is-merge L e m scales region b x is same part low = λ i. Patch ((is ∙ (λ j. cell_box (sym same j) (part j))) i) (low i)

-- a refined directory is grown
pub grows : {K : ℕ} (before after : List (List ℕ)) (c : Cut) (i : ℕ) (b : CellBox K) → c.attribute < length before → IsTrue (is_scale (scale_of before c.attribute)) → c.fresh ≡ true → i ≡ interval (scale_of before c.attribute) c.value
    → HasCorners (dims after) b → after ≡ scales_after before c → IsFreshFor before c → cells after ≤ MOST_CELLS → IsGrowth (dims before) c.attribute i b
grows before after c i b p lawful fresh there corners later new few =
    let refined : dims after ≡ grown (dims before) c.attribute = ap dims later ∙ ap (λ f. dims (cond f (refined_at before c.attribute c.value) before)) fresh ∙ dims-refined before c.attribute c.value p lawful (new fresh) in
    record {
      attribute = omega (arith, p, length-map before intervals);
      interval = omega (arith, there, few-intervals (scale_of before c.attribute) c.value, get_or-map intervals before c.attribute [] 0 p);
      few = subst (λ ns. product ns ≤ MOST_CELLS) refined few;
      corners = subst (λ ns. HasCorners ns b) refined corners;
    }
