-- Lists of scales, scale by scale.
use Rattle.std.proofs.Common.{◌≡◌, ◌<◌, ◌≤◌, ◌+◌, ℕ, zero, suc, List, [], ◌∷◌, drop, take, length, get_or, slice_index, slice_set, Result, refl, sym, ap, ◌∙◌, arith}
use Rattle.std.specs.Prelude.{OnOk}
use Rattle.std.proofs.lemmas.Result.{on_ok_weaker}
use Rattle.std.proofs.lemmas.List.{get_or-map, map-set, set-get_or, length-map, take_all}
use Rattle.std.proofs.lemmas.List.Sums.{sum_by_more, sum-map}
use Rattle.std.specs.List.{sum_by}
use Rattle.grid_model.specs.Scales.{scale_of, intervals, interval, refined}
use Rattle.grid_model.specs.Cells.{dims, cell_of}
use Rattle.grid_model.specs.Lone.{boundaries}
use Rattle.linear_scales.specs.Limited.{LimitedScale, scales_of, limits_of}

-- the scale at an index, without its limit
pub scale-at : (ss : List LimitedScale) (a : ℕ) (d : LimitedScale) → a < length ss → scale_of (scales_of ss) a ≡ (get_or ss a d).boundaries
scale-at ss a d p = get_or-map (λ s. s.boundaries) ss a d [] p

-- intervals of each number are the cell
pub cell-filled : (ss : List LimitedScale) (ks cell : List ℕ) → length ks ≡ length ss → length cell ≡ length ss
    → ((k : ℕ) (d : LimitedScale) → k < length ss → slice_index cell k ≡ interval (get_or ss k d).boundaries (slice_index ks k)) → cell ≡ cell_of (scales_of ss) ks
cell-filled [] [] [] p q h = refl
cell-filled [] (k ∷ ks) cell p q h = absurd (omega (arith, p))
cell-filled [] [] (c ∷ cell) p q h = absurd (omega (arith, q))
cell-filled (s ∷ ss) [] cell p q h = absurd (omega (arith, p))
cell-filled (s ∷ ss) (k ∷ ks) [] p q h = absurd (omega (arith, q))
cell-filled (s ∷ ss) (k ∷ ks) (c ∷ cell) p q h =
    let first : c ≡ interval s.boundaries k = h zero s (omega arith) in
    let rest : cell ≡ cell_of (scales_of ss) ks = cell-filled ss ks cell (omega (arith, p)) (omega (arith, q)) (λ j d r. h (suc j) d (omega (arith, r))) in
    λ i. first i ∷ rest i

-- scales of the same limits have the same limit at each index
pub same-limits : (xs ys : List LimitedScale) (k : ℕ) (d : LimitedScale) → limits_of xs ≡ limits_of ys → (get_or xs k d).limit ≡ (get_or ys k d).limit
same-limits [] [] k d e = refl
same-limits [] (y ∷ ys) k d e = absurd (omega (arith, ap length e))
same-limits (x ∷ xs) [] k d e = absurd (omega (arith, ap length e))
same-limits (x ∷ xs) (y ∷ ys) zero d e = ap (λ ns. slice_index ns 0) e
same-limits (x ∷ xs) (y ∷ ys) (suc k) d e = same-limits xs ys k d (ap (drop 1) e)

-- a scale that is refined, among the others
pub scales-refined : {T E : Type 0} (r : Result T E) (ss : List LimitedScale) (a v : ℕ) (old new : LimitedScale) → a < length ss → ((d : LimitedScale) → old ≡ get_or ss a d)
    → OnOk r (new.boundaries ≡ refined old.boundaries v) → OnOk r (scales_of (slice_set ss a new) ≡ slice_set (scales_of ss) a (refined (scale_of (scales_of ss) a) v))
scales-refined r ss a v old new p is = on_ok_weaker r (λ e.
    map-set (λ s. s.boundaries) ss a new
    ∙ ap (slice_set (scales_of ss) a) (e ∙ ap (λ (s : LimitedScale). refined s.boundaries v) (is old) ∙ ap (λ (bs : List ℕ). refined bs v) (sym (scale-at ss a old p))))

-- a scale that keeps its limit, among the others
pub limits-kept : (ss : List LimitedScale) (a : ℕ) (old new : LimitedScale) → a < length ss → ((d : LimitedScale) → old ≡ get_or ss a d) → new.limit ≡ old.limit → limits_of (slice_set ss a new) ≡ limits_of ss
limits-kept ss a old new p is e =
    map-set (λ s. s.limit) ss a new
    ∙ ap (slice_set (limits_of ss) a) (e ∙ ap (λ (s : LimitedScale). s.limit) (is old) ∙ sym (get_or-map (λ s. s.limit) ss a old 0 p))
    ∙ set-get_or (limits_of ss) a 0

-- the number of intervals of each scale is the list of them
pub dims-filled : (ss : List LimitedScale) (ns : List ℕ) → length ns ≡ length ss → ((k : ℕ) (d : LimitedScale) → k < length ss → slice_index ns k ≡ intervals (get_or ss k d).boundaries) → ns ≡ dims (scales_of ss)
dims-filled [] [] p h = refl
dims-filled [] (n ∷ ns) p h = absurd (omega (arith, p))
dims-filled (s ∷ ss) [] p h = absurd (omega (arith, p))
dims-filled (s ∷ ss) (n ∷ ns) p h =
    let first : n ≡ intervals s.boundaries = h zero s (omega arith) in
    let rest : ns ≡ dims (scales_of ss) = dims-filled ss ns (omega (arith, p)) (λ j d r. h (suc j) d (omega (arith, r))) in
    λ i. first i ∷ rest i

-- the boundaries of the first scales, and of one more
pub boundaries-more : (ss : List LimitedScale) (a n : ℕ) (old : LimitedScale) → a < length ss → old ≡ get_or ss a old → n ≡ sum_by length (take a (scales_of ss)) → n + length old.boundaries ≡ sum_by length (take (a + 1) (scales_of ss))
boundaries-more ss a n old p is so_far =
    let inside : a < length (scales_of ss) = omega (arith, p, length-map ss (λ s. s.boundaries)) in
    let here : length old.boundaries ≡ length (scale_of (scales_of ss) a) = ap (λ (s : LimitedScale). length s.boundaries) is ∙ ap length (sym (scale-at ss a old p)) in
    let more = sum_by_more length (scales_of ss) a [] inside in
    omega (arith, so_far, here, more)

-- those of all scales
pub all-boundaries : (ss : List LimitedScale) (a n : ℕ) → length ss ≤ a → n ≡ sum_by length (take a (scales_of ss)) → n ≡ boundaries (scales_of ss)
all-boundaries ss a n p so_far = so_far ∙ ap (sum_by length) (take_all a (scales_of ss) (omega (arith, p, length-map ss (λ s. s.boundaries)))) ∙ sym (sum-map length (scales_of ss))
