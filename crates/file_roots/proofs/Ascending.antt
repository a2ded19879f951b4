-- A boundary behind those of a scale.
use Rattle.std.proofs.Common.{◌≡◌, ◌<◌, ◌≤◌, ◌+◌, ◌++◌, ℕ, Bool, true, false, cond, ◌||◌, List, [], ◌∷◌, length, slice_index, nat_lt, filter, IsTrue, refl, sym, ap, ◌∙◌, arith, true≢false}
use Rattle.std.proofs.lemmas.Bool.{lt-ltb, le-ltb, ne_eqb}
use Rattle.grid_model.specs.Lists.{is_among}
use Rattle.grid_types.specs.Keys.{top}
use Rattle.grid_model.specs.Scales.{ascends_from, is_scale, low, refined}
use Rattle.grid_model.proofs.ScaleLaws.{starts, tops, goes-on, ascending}
use Rattle.linear_scales.specs.Limited.{LimitedScale}
use Rattle.linear_scales.specs.declared.refused.ScaleRefused.{ScaleRefused}
use Rattle.linear_scales.specs.declared.refused.ScaleRefused.TheVariants.{Present, Limit}
use Rattle.linear_scales.specs.Refusals.{IsCause}

-- what lies above the last boundary lies above the number from which they ascend
goes_above : (s l v : ℕ) (bs : List ℕ) → ascends_from l bs ≡ true → s < l → slice_index (s ∷ bs) (length bs) < v → s < v
goes_above s l v [] e p h = h
goes_above s l v (b ∷ bs) e p h = omega (arith, goes_above b (b + 1) v bs (goes-on l b bs e) (omega arith) h, starts l b bs e, p)

refined_later : (v b : ℕ) (bs : List ℕ) → b < v → refined (b ∷ bs) v ≡ b ∷ refined bs v
refined_later v b bs p =
    ap (λ (t : Bool). cond t (b ∷ filter (λ b. nat_lt b v) bs) (filter (λ b. nat_lt b v) bs) ++ v ∷ cond (nat_lt v b) (b ∷ filter (λ b. nat_lt v b) bs) (filter (λ b. nat_lt v b) bs)) (lt-ltb b v p)
    ∙ ap (λ (t : Bool). (b ∷ filter (λ b. nat_lt b v) bs) ++ v ∷ cond t (b ∷ filter (λ b. nat_lt v b) bs) (filter (λ b. nat_lt v b) bs)) (le-ltb v b (omega (arith, p)))

refined_last : (s l v : ℕ) (bs : List ℕ) → ascends_from l bs ≡ true → slice_index (s ∷ bs) (length bs) < v → refined bs v ≡ bs ++ v ∷ []
refined_last s l v [] e h = refl
refined_last s l v (b ∷ bs) e h =
    refined_later v b bs (goes_above b (b + 1) v bs (goes-on l b bs e) (omega arith) h) ∙ ap (λ xs. b ∷ xs) (refined_last b (b + 1) v bs (goes-on l b bs e) h)

none_among : (s l v : ℕ) (bs : List ℕ) → ascends_from l bs ≡ true → slice_index (s ∷ bs) (length bs) < v → is_among bs v ≡ false
none_among s l v [] e h = refl
none_among s l v (b ∷ bs) e h =
    let lt = goes_above b (b + 1) v bs (goes-on l b bs e) (omega arith) h in
    ap (λ t. t || is_among bs v) (ne_eqb b v (λ same. absurd (omega (arith, same, lt)))) ∙ none_among b (b + 1) v bs (goes-on l b bs e) h

ascends : (s l v : ℕ) (bs : List ℕ) → ascends_from l bs ≡ true → s + 1 ≡ l → v ≤ top → slice_index (s ∷ bs) (length bs) < v → ascends_from l (bs ++ v ∷ []) ≡ true
ascends s l v [] e n t h = ascending l v [] (omega (arith, n, h)) t refl
ascends s l v (b ∷ bs) e n t h = ascending l b (bs ++ v ∷ []) (starts l b bs e) (tops l b bs e) (ascends b (b + 1) v bs (goes-on l b bs e) refl t h)

last_below : (s l v : ℕ) (bs : List ℕ) → s + 1 ≡ l → ascends_from l (bs ++ v ∷ []) ≡ true → slice_index (s ∷ bs) (length bs) < v
last_below s l v [] n e = omega (arith, n, starts l v [] e)
last_below s l v (b ∷ bs) n e = last_below b (b + 1) v bs refl (goes-on l b (bs ++ v ∷ []) e)

front_ascends : (l : ℕ) (bs cs : List ℕ) → ascends_from l (bs ++ cs) ≡ true → ascends_from l bs ≡ true
front_ascends l [] cs e = refl
front_ascends l (b ∷ bs) cs e = ascending l b bs (starts l b (bs ++ cs) e) (tops l b (bs ++ cs) e) (front_ascends (b + 1) bs cs (goes-on l b (bs ++ cs) e))

module _ (scale : List ℕ) (v : ℕ) where
  -- a boundary above the last is put behind it
  pub put_behind : IsTrue (is_scale scale) → low scale (length scale) < v → refined scale v ≡ scale ++ v ∷ []
  put_behind e h = refined_last 0 1 v scale e h

  -- and makes a scale again
  pub scale_again : IsTrue (is_scale scale) → v ≤ top → low scale (length scale) < v → IsTrue (is_scale (scale ++ v ∷ []))
  scale_again e t h = ascends 0 1 v scale e refl t h

  -- no other does
  pub last_is_below : IsTrue (is_scale (scale ++ v ∷ [])) → low scale (length scale) < v
  last_is_below e = last_below 0 1 v scale refl e

  -- it is no boundary yet
  pub is_fresh : IsTrue (is_scale scale) → low scale (length scale) < v → is_among scale v ≡ false
  is_fresh e h = none_among 0 1 v scale e h

-- the low bound of the last interval, where the boundaries were read twice
pub last_bound : (b : ℕ) (own read scale : List ℕ) → b ≡ low own (length read) → read ≡ own → own ≡ scale → b ≡ low scale (length scale)
last_bound b own read scale is same whole = is ∙ ap (λ xs. low own (length xs)) (same ∙ whole) ∙ ap (λ xs. low xs (length scale)) whole

-- the front of a scale is a scale
pub front_of_scale : (bs cs : List ℕ) → IsTrue (is_scale (bs ++ cs)) → IsTrue (is_scale bs)
front_of_scale bs cs e = front_ascends 1 bs cs e

-- a scale with room refuses no number that is no boundary
pub no_cause : (s : LimitedScale) (v : ℕ) (cause : ScaleRefused) → is_among s.boundaries v ≡ false → length s.boundaries < s.limit → IsCause s v cause → ⊥
no_cause s v Present fresh room h = absurd (true≢false (sym h ∙ fresh))
no_cause s v Limit fresh room h = absurd (omega (arith, h.1, room))
