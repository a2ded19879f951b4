-- Lists that are the same but at a place, and regions that touch along some attribute.
use Rattle.std.proofs.Common.{◌≡◌, ◌≢◌, ◌<◌, ◌≤◌, ◌+◌, ◌⊎◌, inl, inr, ◌==◌, ◌||◌, ℕ, zero, suc, Bool, true, false, List, length, get_or, slice_index, slice_set, refl, sym, ap, ◌∙◌, arith}
use Rattle.std.proofs.lemmas.Bool.{eq-eqb, ne_eqb, cases_eq, or_left, or_right}
use Rattle.std.proofs.lemmas.List.{length-set, get_or-set_other, get_or-set_same}
use Rattle.std.specs.List.{list_any, range_with_len}
use Rattle.grid_types.specs.Regions.{same_but}
use Rattle.grid_types.proofs.Each.{each-pair, one-pair, any-default}

-- the numbers are the same at each other place
pub same-but : (a : ℕ) (xs ys : List ℕ) → length xs ≡ length ys → ((k : ℕ) → k < length xs → k ≢ a → slice_index xs k ≡ slice_index ys k) → same_but a xs ys ≡ true
same-but a xs ys long h = each-pair ◌==◌ (slice_set xs a 0) (slice_set ys a 0) (length-set xs a 0 ∙ long ∙ sym (length-set ys a 0)) (λ k x y l. by k x y (omega (arith, l, length-set xs a 0)) (cases_eq k a))
  where
    by : (k x y : ℕ) → k < length xs → (k ≡ a) ⊎ (k ≢ a) → (get_or (slice_set xs a 0) k x == get_or (slice_set ys a 0) k y) ≡ true
    by k x y l (inl e) = eq-eqb (get_or (slice_set xs a 0) k x) (get_or (slice_set ys a 0) k y)
        (ap (λ i. get_or (slice_set xs a 0) i x) e ∙ get_or-set_same xs a 0 x (omega (arith, l, e)) ∙ sym (get_or-set_same ys a 0 y (omega (arith, l, e, long))) ∙ sym (ap (λ i. get_or (slice_set ys a 0) i y) e))
    by k x y l (inr e) = eq-eqb (get_or (slice_set xs a 0) k x) (get_or (slice_set ys a 0) k y)
        (get_or-set_other xs a k 0 x e ∙ any-default xs k x 0 l ∙ h k l e ∙ any-default ys k 0 y (omega (arith, l, long)) ∙ sym (get_or-set_other ys a k 0 y e))

-- they differ at another place
pub differ-at : (a : ℕ) (xs ys : List ℕ) (k : ℕ) → k < length xs → k ≢ a → slice_index xs k ≢ slice_index ys k → same_but a xs ys ≡ false
differ-at a xs ys k l other differ =
    one-pair ◌==◌ (slice_set xs a 0) (slice_set ys a 0) k 0 0 (omega (arith, l, length-set xs a 0))
    (ap (λ n. n == slice_index (slice_set ys a 0) k) (get_or-set_other xs a k 0 0 other) ∙ ap (λ n. slice_index xs k == n) (get_or-set_other ys a k 0 0 other) ∙ ne_eqb (slice_index xs k) (slice_index ys k) differ)

-- one number below a bound passes
pub one-passes : (p : ℕ → Bool) (i n a : ℕ) → i ≤ a → a < i + n → p a ≡ true → list_any p (range_with_len i n) ≡ true
one-passes p i zero a low high h = absurd (omega (arith, low, high))
one-passes p i (suc n) a low high h = by (cases_eq i a) (λ e. one-passes p (i + 1) n a (omega (arith, low, e)) (omega (arith, high)) h)
  where
    by : (i ≡ a) ⊎ (i ≢ a) → (i ≢ a → list_any p (range_with_len (i + 1) n) ≡ true) → (p i || list_any p (range_with_len (i + 1) n)) ≡ true
    by (inl e) rest = or_left (p i) (list_any p (range_with_len (i + 1) n)) (ap p e ∙ h)
    by (inr e) rest = or_right (p i) (list_any p (range_with_len (i + 1) n)) (rest e)

-- none passes
pub none-passes : (p : ℕ → Bool) (i n : ℕ) → ((a : ℕ) → a < i + n → p a ≡ false) → list_any p (range_with_len i n) ≡ false
none-passes p i zero h = refl
none-passes p i (suc n) h = ap (λ t. t || list_any p (range_with_len (i + 1) n)) (h i (omega arith)) ∙ none-passes p (i + 1) n (λ a l. h a (omega (arith, l)))
