-- The names of the cells after a cut.
use Rattle.std.proofs.Common.{◌≡◌, ◌≢◌, ◌<◌, ◌≤◌, ◌^◌, ◌⊎◌, inl, inr, ℕ, Bool, true, false, cond, T, List, length, slice_index, slice_set, Some, IsTrue, refl, sym, ap, ◌∙◌, subst, arith, nat_cmp}
use Rattle.std.proofs.lemmas.Bool.{cases_eq}
use Rattle.std.proofs.lemmas.List.{length-map, length-set, get_or-set_same, get_or-set_other}
use Rattle.std.specs.FinMap.Entries.{is_sorted}
use Rattle.grid_types.specs.declared.layout_change.Cut.{Cut}
use Rattle.grid_types.specs.declared.shape.Shape.{Shape}
use Rattle.grid_types.specs.Regions.{contains, IsRegion}
use Rattle.grid_types.specs.Keys.{IsKey}
use Rattle.grid_model.specs.Scales.{is_scale, is_drawn, scale_of, interval, intervals, refined_at}
use Rattle.grid_model.specs.Cells.{dims, corner, InCellBox}
use Rattle.grid_model.specs.ScaleLaws.{IsCell}
use Rattle.grid_model.specs.Tables.{Table}
use Rattle.grid_model.specs.Layouts.{BucketBox, Layout, box, Apart, IsSound, IsDrawn, number_at}
use Rattle.grid_model.specs.Notes.{right_of, scales_after, split}
use Rattle.grid_model.proofs.CutBoxes.{box-right, split-numbered, split-apart}
use Rattle.grid_types.proofs.Parted.{up-to-high}
use Rattle.grid_model.proofs.CutScales.{CutsScale, AreAfter, cut-scales, drawn-above}
use Rattle.grid_model.proofs.LowestKeys.{corner-long, corner-number}
use Rattle.grid_model.proofs.ScaleLaws.{parts-numbers}
use Rattle.grid_cells.specs.Laws.{IsRefinement, IsDrawnLayout}
use Rattle.grid_cells.proofs.Images.{image-is-cell}
use Rattle.grid_cells.proofs.Names.{names-stay}
use Rattle.directory_changes.specs.Changes.{cell_box}
use Rattle.directory_changes.specs.declared.change.DirectoryChange.TheVariants.{Patch, Grow}
use Rattle.directory_changes.proofs.Growing.{dims-refined}
use Rattle.history_pages.proofs.Cutting.{CutsBox, scales-of-split, scales-stay, name-stays}
use Rattle.shadow_directory.proofs.After.{NamesAfter, names-it}
use Rattle.shadow_directory.proofs.Regions.{key-in-box, box-has-key}

-- what a list of numbers with one other number has at each place
set-each : (P : ℕ → ℕ → Type 0) (xs : List ℕ) (a v i : ℕ) → a < length xs → P a v → P i (slice_index xs i) → P i (slice_index (slice_set xs a v) i)
set-each P xs a v i inside here there = by (cases_eq i a)
  where
    by : (i ≡ a) ⊎ (i ≢ a) → P i (slice_index (slice_set xs a v) i)
    by (inl e) = subst (λ j. P j (slice_index (slice_set xs a v) j)) (sym e) (subst (P a) (sym (get_or-set_same xs a v 0 inside)) here)
    by (inr d) = subst (P i) (sym (get_or-set_other xs a i v 0 d)) there

module _ {K : ℕ} (shape : Shape) (L : Layout K) (t : Table) (n : ℕ) (b : BucketBox K) (c : Cut) (right : ℕ) (sound : IsSound shape L t) (there : box L n ≡ Some b) (is : CutsBox L b c right) (scale : CutsScale shape L.scales c) where
  -- the layout after the cut, and its scales
  abbrev M : Layout K
  M = split L n b c right

  abbrev later : List (List ℕ)
  later = scales_after L.scales c

  after-cut : AreAfter K shape L.scales (scales_after L.scales c) c.attribute c.value
  after-cut = cut-scales parts-numbers shape L.scales (record { attributes = sound.attributes; ascend = sound.scales; few_boundaries = sound.few_boundaries; few_cells = sound.few_cells }) c is.attribute scale

  region : IsRegion K b.region
  region = sound.regions n b there

  in-low : c.attribute < length b.region.lo
  in-low = omega (arith, region.low.count, is.attribute)

  most : c.value ≤ slice_index b.region.hi c.attribute
  most = up-to-high b.region c.attribute c.value is.within

  right-region : IsRegion K (right_of b c).region
  right-region = record {
    low = record {
      count = length-set b.region.lo c.attribute c.value ∙ region.low.count;
      in_range = λ a. set-each (λ _ x. x < 2 ^ 64) b.region.lo c.attribute c.value a in-low (omega (arith, most, region.high.in_range c.attribute)) (region.low.in_range a);
    };
    high = region.high;
    not_empty = λ a i. set-each (λ j x. x ≤ slice_index b.region.hi j) b.region.lo c.attribute c.value a in-low most (region.not_empty a i);
  }

  right-drawn : IsDrawn (scales_after L.scales c) (right_of b c)
  right-drawn a i = set-each (λ j x. IsTrue (is_drawn (scale_of (scales_after L.scales c) j) x (slice_index b.region.hi j))) b.region.lo c.attribute c.value a in-low
      (drawn-above (scale_of (scales_after L.scales c) c.attribute) c.value (slice_index b.region.lo c.attribute) (slice_index b.region.hi c.attribute) after-cut.boundary
      (after-cut.drawn c.attribute (slice_index b.region.lo c.attribute) (slice_index b.region.hi c.attribute) is.attribute (sound.drawn n b there c.attribute is.attribute)))
      (after-cut.drawn a (slice_index b.region.lo a) (slice_index b.region.hi a) i (sound.drawn n b there a i))

  sorted : T (is_sorted nat_cmp (split L n b c right).boxes)
  sorted = split-numbered L n b c right there is.free sound.numbered

  apart : Apart (split L n b c right)
  apart = split-apart L n b c right there is.free region is.attribute is.within sound.apart

  lawful : (a : ℕ) → a < length (scales_after L.scales c) → is_scale (scale_of (scales_after L.scales c) a) ≡ true
  lawful a p = after-cut.lawful.ascend a (omega (arith, p, after-cut.lawful.attributes))

  module _ (cell : List ℕ) (cell-is : IsCell (dims (scales_after L.scales c)) cell) where
    lowest : IsKey K (corner (scales_after L.scales c) cell)
    lowest = record {
      count = corner-long (scales_after L.scales c) cell (cell-is.count ∙ length-map (scales_after L.scales c) intervals) ∙ after-cut.lawful.attributes;
      in_range = λ a. omega (arith, corner-number (scales_after L.scales c) cell lawful a);
    }

    -- the cells of the right part have its number
    cut-named : InCellBox (cell_box (scales_after L.scales c) (right_of b c).region) cell → number_at (split L n b c right) (corner (scales_after L.scales c) cell) ≡ right
    cut-named i = names-it (split L n b c right) (corner (scales_after L.scales c) cell) right (right_of b c) sorted apart (box-right L n b c right there is.free)
        (box-has-key (scales_after L.scales c) (right_of b c) cell after-cut.lawful.attributes lawful right-drawn right-region cell-is i)

    -- the lowest keys of the others stay in their boxes
    cut-others : (InCellBox (cell_box (scales_after L.scales c) (right_of b c).region) cell → ⊥) → number_at (split L n b c right) (corner (scales_after L.scales c) cell) ≡ number_at L (corner (scales_after L.scales c) cell)
    cut-others out = name-stays shape L t n b c right sound there is (corner (scales_after L.scales c) cell) lowest (by (contains (right_of b c).region (corner (scales_after L.scales c) cell)) refl)
      where
        by : (s : Bool) → contains (right_of b c).region (corner (scales_after L.scales c) cell) ≡ s → s ≡ false
        by false e = refl
        by true e = absurd (out (key-in-box (scales_after L.scales c) (right_of b c) cell after-cut.lawful.attributes lawful right-drawn right-region cell-is e))

  -- a cut at an existing boundary
  pub names-patched : c.fresh ≡ false → NamesAfter L (split L n b c right) (Patch (cell_box L.scales (right_of b c).region) right)
  names-patched old =
      let scales-are : (split L n b c right).scales ≡ scales_after L.scales c = scales-of-split L n b c right in
      let same : scales_after L.scales c ≡ L.scales = scales-stay L.scales c old in
      record {
        dims_are = ap dims (scales-are ∙ same);
        source = λ cell h. subst (λ s. IsCell (dims s) cell) (scales-are ∙ same) h;
        named = λ cell h i.
            let here = subst (λ s. IsCell (dims s) cell) scales-are h in
            ap (λ s. number_at (split L n b c right) (corner s cell)) scales-are ∙ cut-named cell here (subst (λ s. InCellBox (cell_box s (right_of b c).region) cell) (sym same) i);
        others = λ cell h out.
            let here = subst (λ s. IsCell (dims s) cell) scales-are h in
            ap (λ s. number_at (split L n b c right) (corner s cell)) scales-are ∙ cut-others cell here (λ i. out (subst (λ s. InCellBox (cell_box s (right_of b c).region) cell) same i)) ∙ ap (λ s. number_at L (corner s cell)) same;
      }

  -- a cut at a fresh one
  pub names-grown : c.fresh ≡ true → NamesAfter L (split L n b c right) (Grow c.attribute (interval (scale_of L.scales c.attribute) c.value) (cell_box (scales_after L.scales c) (right_of b c).region) right)
  names-grown fresh =
      let scales-are : (split L n b c right).scales ≡ scales_after L.scales c = scales-of-split L n b c right in
      let same : scales_after L.scales c ≡ refined_at L.scales c.attribute c.value = ap (λ f. cond f (refined_at L.scales c.attribute c.value) L.scales) fresh in
      let inside : c.attribute < length L.scales = omega (arith, is.attribute, sound.attributes) in
      let refines : IsRefinement L.scales c.attribute c.value = record {
        scales_lawful = λ a p. sound.scales a (omega (arith, p, sound.attributes));
        attribute = inside;
        fresh = scale.new fresh;
        least = scale.above_zero;
        greatest = scale.up_to_top;
      } in
      let drawn : IsDrawnLayout L = record { attributes = sound.attributes; numbered = sound.numbered; drawn = sound.drawn } in
      record {
        dims_are = ap dims (scales-are ∙ same) ∙ dims-refined L.scales c.attribute c.value inside (sound.scales c.attribute is.attribute) (scale.new fresh);
        source = λ cell h. image-is-cell L.scales c.attribute c.value cell refines (subst (λ s. IsCell (dims s) cell) (scales-are ∙ same) h);
        named = λ cell h i. ap (λ s. number_at (split L n b c right) (corner s cell)) scales-are ∙ cut-named cell (subst (λ s. IsCell (dims s) cell) scales-are h) i;
        others = λ cell h out.
            ap (λ s. number_at (split L n b c right) (corner s cell)) scales-are
            ∙ cut-others cell (subst (λ s. IsCell (dims s) cell) scales-are h) out
            ∙ ap (λ s. number_at L (corner s cell)) same
            ∙ names-stay.same L c.attribute c.value cell drawn refines (subst (λ s. IsCell (dims s) cell) (scales-are ∙ same) h);
      }
