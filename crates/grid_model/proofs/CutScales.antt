-- The scales after a cut: as before, or one of them with a fresh boundary.
use Rattle.std.proofs.Common.{◌≡◌, ◌<◌, ◌≤◌, ◌+◌, ◌-◌, ℕ, pred, Bool, true, false, cond, ◌||◌, ◌==◌, List, [], ◌∷◌, map, length, slice_set, refl, sym, ap, subst, ◌∙◌, arith, true≢false, IsTrue, nat_cmp, nat_le, nat_lt, leb-true, ltb-true, eq-eqb, eqb-true}
use Rattle.std.proofs.lemmas.List.{length-set, get_or-set_same, get_or-set_other, map-set}
use Rattle.std.proofs.lemmas.List.Folds.{list_any-append}
use Rattle.std.specs.Ordering.{eq_by_cmp}
use Rattle.grid_types.specs.declared.layout_change.Cut.{Cut}
use Rattle.grid_types.specs.declared.shape.Shape.{Shape}
use Rattle.grid_types.proofs.Numbers.{both, first, second}
use Rattle.grid_types.specs.Keys.{top}
use Rattle.grid_model.specs.Lists.{is_among, product}
use Rattle.grid_model.specs.Scales.{scale_of, is_scale, is_drawn, refined, lows, highs, intervals}
use Rattle.grid_model.specs.Cells.{cells, dims}
use Rattle.grid_model.specs.Cuts.{may_grow, cells_with}
use Rattle.grid_model.specs.Notes.{scales_after}
use Rattle.grid_model.specs.ScaleLaws.{PartsNumbers}
use Rattle.grid_model.proofs.Found.{one-number, two-numbers}
use Rattle.grid_model.proofs.Truths.{or-left, or-right}

-- the scales of a file of that shape
pub record AreScales (K : ℕ) (shape : Shape) (scales : List (List ℕ)) : Type 0 where
  pub attributes : length scales ≡ K
  pub ascend : (a : ℕ) → a < K → IsTrue (is_scale (scale_of scales a))
  pub few_boundaries : (a : ℕ) → a < K → length (scale_of scales a) ≤ shape.boundaries
  pub few_cells : cells scales ≤ shape.cells

-- scales after others: they are lawful, have that boundary, and keep all ends
pub record AreAfter (K : ℕ) (shape : Shape) (scales after : List (List ℕ)) (a v : ℕ) : Type 0 where
  pub lawful : AreScales K shape after
  pub boundary : IsTrue (is_among (scale_of after a) v)
  pub drawn : (i lo hi : ℕ) → i < K → IsTrue (is_drawn (scale_of scales i) lo hi) → IsTrue (is_drawn (scale_of after i) lo hi)

-- a cut at an existing boundary, or at a fresh one where the scale may grow
pub record CutsScale (shape : Shape) (scales : List (List ℕ)) (c : Cut) : Type 0 where
  pub old : c.fresh ≡ false → IsTrue (is_among (scale_of scales c.attribute) c.value)
  pub new : c.fresh ≡ true → is_among (scale_of scales c.attribute) c.value ≡ false
  pub grows : c.fresh ≡ true → IsTrue (may_grow shape scales c.attribute)
  pub above_zero : 1 ≤ c.value
  pub up_to_top : c.value ≤ top

-- below a boundary an interval ends
ends_below : (scale : List ℕ) (v : ℕ) → is_among scale v ≡ true → is_among (map pred scale) (v - 1) ≡ true
ends_below [] v e = absurd (true≢false (sym e))
ends_below (b ∷ scale) v e = by (b == v) refl e (ends_below scale v)
  where
    by : (t : Bool) → (b == v) ≡ t → (t || is_among scale v) ≡ true → (is_among scale v ≡ true → is_among (map pred scale) (v - 1) ≡ true) → ((pred b == v - 1) || is_among (map pred scale) (v - 1)) ≡ true
    by true p e rest = let same : b ≡ v = eqb-true b v p in or-left (pred b == v - 1) (is_among (map pred scale) (v - 1)) (eq-eqb (pred b) (v - 1) (omega (arith, same)))
    by false p e rest = or-right (pred b == v - 1) (is_among (map pred scale) (v - 1)) (rest e)

-- up to a boundary an interval's bounds are ends
pub drawn-below : (scale : List ℕ) (v lo hi : ℕ) → IsTrue (is_among scale v) → IsTrue (is_drawn scale lo hi) → IsTrue (is_drawn scale lo (v - 1))
drawn-below scale v lo hi e d =
    both (is_among (lows scale) lo) (is_among (highs scale) (v - 1)) (first (is_among (lows scale) lo) (is_among (highs scale) hi) d)
    (list_any-append (λ m. m == v - 1) (map pred scale) (top ∷ []) ∙ or-left (is_among (map pred scale) (v - 1)) (is_among (top ∷ []) (v - 1)) (ends_below scale v e))

-- and so they are from a boundary on
pub drawn-above : (scale : List ℕ) (v lo hi : ℕ) → IsTrue (is_among scale v) → IsTrue (is_drawn scale lo hi) → IsTrue (is_drawn scale v hi)
drawn-above scale v lo hi e d =
    both (is_among (lows scale) v) (is_among (highs scale) hi) (or-right (0 == v) (is_among scale v) e) (second (is_among (lows scale) lo) (is_among (highs scale) hi) d)

module _ {K : ℕ} (parts : PartsNumbers) (shape : Shape) (scales : List (List ℕ)) (old : AreScales K shape scales) where
  grown : (a v : ℕ) → a < K → 1 ≤ v → v ≤ top → is_among (scale_of scales a) v ≡ false → IsTrue (may_grow shape scales a) → AreAfter K shape scales (slice_set scales a (refined (scale_of scales a) v)) a v
  unfolding may_grow
  grown a v in_range above up new grows = record {
    lawful = record {
      attributes = length-set scales a scale ∙ old.attributes;
      ascend = λ i h. each (λ s. IsTrue (is_scale s)) i (λ _. parts.scale (scale_of scales a) v (old.ascend a in_range) new above up) (old.ascend i h);
      few_boundaries = λ i h. each (λ s. length s ≤ shape.boundaries) i (λ _. omega (arith, longer, below)) (old.few_boundaries i h);
      few_cells = subst (λ n. n ≤ shape.cells) (sym counted) few;
    };
    boundary = subst (λ s. IsTrue (is_among s v)) (sym same) ((parts.has (scale_of scales a) v v (old.ascend a in_range)).1 itself);
    drawn = λ i lo hi h e. each (λ s. IsTrue (is_drawn s lo hi)) i (λ is. parts.drawn (scale_of scales a) v lo hi (old.ascend a in_range) (subst (λ j. IsTrue (is_drawn (scale_of scales j) lo hi)) is e)) e;
  }
    where
      scale : List ℕ
      scale = refined (scale_of scales a) v

      inside : a < length scales
      inside = let count : length scales ≡ K = old.attributes in omega (arith, count, in_range)

      same : scale_of (slice_set scales a scale) a ≡ scale
      same = get_or-set_same scales a scale [] inside

      each : (P : List ℕ → Type 0) (i : ℕ) → (i ≡ a → P scale) → P (scale_of scales i) → P (scale_of (slice_set scales a scale) i)
      each P i here there = by (eq_by_cmp nat_cmp i a) refl
        where
          by : (b : Bool) → eq_by_cmp nat_cmp i a ≡ b → P (scale_of (slice_set scales a scale) i)
          by true e = let is : i ≡ a = one-number i a e in subst (λ j. P (scale_of (slice_set scales a scale) j)) (sym is) (subst P (sym same) (here is))
          by false e = subst P (sym (get_or-set_other scales a i scale [] (two-numbers i a e))) there

      longer : length scale ≡ length (scale_of scales a) + 1
      longer = parts.longer (scale_of scales a) v (old.ascend a in_range) new

      below : length (scale_of scales a) < shape.boundaries
      below = ltb-true (length (scale_of scales a)) shape.boundaries (first (nat_lt (length (scale_of scales a)) shape.boundaries) (nat_le (cells_with scales a) shape.cells) grows)

      few : cells_with scales a ≤ shape.cells
      few = leb-true (cells_with scales a) shape.cells (second (nat_lt (length (scale_of scales a)) shape.boundaries) (nat_le (cells_with scales a) shape.cells) grows)

      two_more : intervals scale ≡ length (scale_of scales a) + 2
      two_more = omega (arith, longer)

      counted : cells (slice_set scales a scale) ≡ cells_with scales a
      counted = ap product (map-set intervals scales a scale ∙ ap (λ n. slice_set (dims scales) a n) two_more)

      itself : (is_among (scale_of scales a) v || (v == v)) ≡ true
      itself = ap (λ t. t || (v == v)) new ∙ eq-eqb v v refl

  -- the scales after a cut
  pub cut-scales : (c : Cut) → c.attribute < K → CutsScale shape scales c → AreAfter K shape scales (scales_after scales c) c.attribute c.value
  cut-scales c in_range cuts = by c.fresh refl
    where
      by : (f : Bool) → c.fresh ≡ f → AreAfter K shape scales (cond f (slice_set scales c.attribute (refined (scale_of scales c.attribute) c.value)) scales) c.attribute c.value
      by true e = grown c.attribute c.value in_range cuts.above_zero cuts.up_to_top (cuts.new e) (cuts.grows e)
      by false e = record { lawful = old; boundary = cuts.old e; drawn = λ i lo hi h d. d }
