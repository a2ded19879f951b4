-- What holds of a cut that lies within the region of a page, and of the scales after it.
use Rattle.std.proofs.Common.{◌≡◌, ◌<◌, ◌≤◌, ℕ, Bool, true, false, cond, not, List, [], length, replicate, slice_index_or, nat_lt, nat_le, refl, sym, ap, subst, ◌∙◌, arith, IsTrue, true≢false, ltb-true}
use Rattle.std.proofs.lemmas.List.{length-map, get_or-map, get_or-replicate}
use Rattle.grid_types.specs.declared.cell_box.CellBox.{CellBox}
use Rattle.grid_types.specs.declared.layout_change.Cut.{Cut}
use Rattle.grid_types.specs.declared.layout_change.LayoutChange.TheVariants as note
use Rattle.grid_types.specs.declared.region.Region.{Region}
use Rattle.grid_types.specs.declared.shape.Shape.{Shape}
use Rattle.grid_types.specs.declared.sizes.TheConstants.{MOST_CELLS}
use Rattle.grid_types.specs.Regions.{IsRegion}
use Rattle.grid_types.specs.Shapes.{is_shape}
use Rattle.grid_types.proofs.Numbers.{first}
use Rattle.grid_types.proofs.Parted.{above-low, up-to-high}
use Rattle.grid_types.proofs.Places.{within-limits}
use Rattle.grid_model.specs.Lists.{is_among}
use Rattle.grid_model.specs.Scales.{scale_of, interval, refined_at}
use Rattle.grid_model.specs.Cells.{cells}
use Rattle.grid_model.specs.Cuts.{may_grow, cells_with}
use Rattle.grid_model.specs.Layouts.{BucketBox, Layout}
use Rattle.grid_model.specs.Notes.{right_of, scales_after}
use Rattle.grid_model.proofs.CutScales.{AreScales, CutsScale, cut-scales}
use Rattle.grid_model.proofs.ScaleLaws.{parts-numbers}
use Rattle.linear_scales.specs.Limited.{LimitedScale, scales_of, limits_of}
use Rattle.linear_scales.specs.Refusals.{TakesBoundary, IsCause}
use Rattle.linear_scales.specs.declared.refused.ScaleRefused.{ScaleRefused}
use Rattle.linear_scales.specs.declared.refused.ScaleRefused.TheVariants.{Present, Limit}
use Rattle.change_plans.specs.Cutting.{IsCutWithin}
use Rattle.directory_changes.specs.Changes.{cell_box, directory_change}
use Rattle.directory_changes.specs.Fresh.{IsFreshFor}
use Rattle.directory_changes.specs.declared.change.DirectoryChange.{DirectoryChange}
use Rattle.directory_changes.specs.declared.change.DirectoryChange.TheVariants.{Patch, Grow}
use Rattle.file_books.specs.Books.{AreScalesOf}
use Rattle.file_books.specs.Effects.{AreOfOneKind}

pub not-true : (b : Bool) → not b ≡ true → b ≡ false
not-true true e = absurd (cc)
not-true false e = refl

pub not-false : (b : Bool) → not b ≡ false → b ≡ true
not-false true e = refl
not-false false e = absurd (cc)

module _ {K : ℕ} (shape : Shape) (ss : List LimitedScale) (region : Region K) (c : Cut) (lawful : IsTrue (is_shape shape)) (s : AreScalesOf K shape (scales_of ss)) (within : IsRegion K region) (inside : c.attribute < K) (is : IsCutWithin shape (scales_of ss) region c) where
  -- it is called fresh where it is
  pub fresh-for : IsFreshFor (scales_of ss) c
  fresh-for f = not-true (is_among (scale_of (scales_of ss) c.attribute) c.value) (sym is.fresh ∙ f)

  cuts-scale : CutsScale shape (scales_of ss) c
  cuts-scale = record {
    old = λ e. not-false (is_among (scale_of (scales_of ss) c.attribute) c.value) (sym is.fresh ∙ e);
    new = fresh-for;
    grows = is.grows;
    above_zero = omega (arith, above-low region c.attribute c.value is.within);
    up_to_top = omega (arith, up-to-high region c.attribute c.value is.within, within.high.in_range c.attribute);
  }

  -- the scales after it are scales of the file
  pub scales-follow : AreScalesOf K shape (scales_after (scales_of ss) c)
  scales-follow =
      let before : AreScales K shape (scales_of ss) = record { attributes = s.attributes; ascend = s.ascend; few_boundaries = s.few_boundaries; few_cells = s.few_cells } in
      let after = (cut-scales parts-numbers shape (scales_of ss) before c inside cuts-scale).lawful in
      record { attributes = after.attributes; ascend = after.ascend; few_boundaries = after.few_boundaries; few_cells = after.few_cells }

  -- they make at most a million cells
  pub few-after : cells (scales_after (scales_of ss) c) ≤ MOST_CELLS
  few-after = let after = scales-follow in omega (arith, after.few_cells, (within-limits shape lawful).few_cells)

  -- a scale whose limit is the shape's takes a fresh boundary
  pub takes : (d : LimitedScale) → limits_of ss ≡ replicate K shape.boundaries → IsTrue c.fresh → TakesBoundary (slice_index_or ss c.attribute d) c.value
  unfolding may_grow
  takes d limits f =
      let there : c.attribute < length ss = omega (arith, inside, s.attributes, length-map ss (λ (x : LimitedScale). x.boundaries)) in
      let scale : scale_of (scales_of ss) c.attribute ≡ (slice_index_or ss c.attribute d).boundaries = get_or-map (λ (x : LimitedScale). x.boundaries) ss c.attribute d [] there in
      let limit : shape.boundaries ≡ (slice_index_or ss c.attribute d).limit = sym (get_or-replicate K c.attribute shape.boundaries 0 inside) ∙ ap (λ xs. slice_index_or xs c.attribute 0) (sym limits) ∙ get_or-map (λ (x : LimitedScale). x.limit) ss c.attribute d 0 there in
      let room = ltb-true (length (scale_of (scales_of ss) c.attribute)) shape.boundaries (first (nat_lt (length (scale_of (scales_of ss) c.attribute)) shape.boundaries) (nat_le (cells_with (scales_of ss) c.attribute) shape.cells) (is.grows f)) in
      record {
        fresh = subst (λ (xs : List ℕ). is_among xs c.value ≡ false) scale (fresh-for f);
        room = omega (arith, room, limit, ap length scale);
      }

-- a refused boundary is one that the scale does not take
pub not-refused : (ss copy : List LimitedScale) (a v : ℕ) (e : ScaleRefused) → copy ≡ ss → ((d : LimitedScale) → TakesBoundary (slice_index_or ss a d) v) → ((d : LimitedScale) → IsCause (slice_index_or copy a d) v e) → ⊥
not-refused ss copy a v e same taken cause = by e (subst (λ (xs : List LimitedScale). IsCause (slice_index_or xs a no_scale) v e) same (cause no_scale))
  where
    no_scale : LimitedScale
    no_scale = record { boundaries = []; limit = 0 }

    by : (e : ScaleRefused) → IsCause (slice_index_or ss a no_scale) v e → ⊥
    by Present there = true≢false (sym there ∙ (taken no_scale).fresh)
    by Limit full = omega (arith, (taken no_scale).room, full.1)

-- scales with a fresh boundary are those after the cut
pub refined-after : (before copy after : List LimitedScale) (c : Cut) → copy ≡ before → c.fresh ≡ true → scales_of after ≡ refined_at (scales_of copy) c.attribute c.value → scales_of after ≡ scales_after (scales_of before) c
refined-after before copy after c same fresh is = is ∙ ap (λ ss. refined_at (scales_of ss) c.attribute c.value) same ∙ sym (ap (λ f. cond f (refined_at (scales_of before) c.attribute c.value) (scales_of before)) fresh)

kind-by : {K : ℕ} (c : Cut) (right i : ℕ) (grown patched : CellBox K) (f : Bool) → c.fresh ≡ f → AreOfOneKind (note.Cut c right) (cond f (Grow c.attribute i grown right) (Patch patched right))
kind-by c right i grown patched true e = (e, refl)
kind-by c right i grown patched false e = ap not e

-- what a cut does to the directory is to grow it at a fresh boundary, or to give cells another bucket
pub cut-kind : {K : ℕ} (scales : List (List ℕ)) (region : Region K) (c : Cut) (right : ℕ) (directory : DirectoryChange K)
    → ((L : Layout K) (e : ℕ × BucketBox K) → L.scales ≡ scales → region ≡ e.1.region → directory ≡ directory_change L e (note.Cut c right)) → AreOfOneKind (note.Cut c right) directory
unfolding directory_change
cut-kind {K} scales region c right directory is =
    let L : Layout K = record { scales = scales; boxes = [] } in
    let e : ℕ × BucketBox K = (0, record { region = region; turn = 0 }) in
    subst (AreOfOneKind (note.Cut c right)) (sym (is L e refl refl))
    (kind-by c right (interval (scale_of scales c.attribute) c.value) (cell_box (scales_after scales c) (right_of e.1 c).region) (cell_box scales (right_of e.1 c).region) c.fresh refl)
