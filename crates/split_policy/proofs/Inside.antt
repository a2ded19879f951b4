-- The boundaries of a scale that lie within a region stand side by side.
use Rattle.std.proofs.Common.{◌≡◌, ◌<◌, ◌≤◌, ◌+◌, ◌-◌, ◌⊎◌, inl, inr, ℕ, zero, suc, Bool, true, false, cond, ◌&&◌, List, [], ◌∷◌, length, filter, slice_index, take, drop, nat_lt, nat_le, refl, ap, ◌∙◌, arith}
use Rattle.std.specs.List.Sorted.{IsNonDecreasing}
use Rattle.std.proofs.lemmas.Bool.{cases_lt, lt-ltb, le-ltb, le-leb, lt-leb, and_from, and_left, and_right}
use Rattle.std.proofs.lemmas.List.Sorted.{IsNonDecreasingBy-from_default, IsNonDecreasingBy-take, IsNonDecreasingBy-drop}
use Rattle.grid_model.specs.Scales.{ascends_from, is_scale, interval}
use Rattle.grid_model.proofs.ScaleLaws.{goes-on, each-from, counted, uncounted, in-first}
use Rattle.grid_model.proofs.Boundaries.{never-falls}

-- a boundary whose index is below a number's interval is at most the number
before-interval : (l : ℕ) (bs : List ℕ) (v k : ℕ) → ascends_from l bs ≡ true → k < interval bs v → slice_index bs k ≤ v
before-interval l [] v k e p = omega arith
before-interval l (b ∷ bs) v k e p = by k (cases_lt v b) p (λ k. before-interval (b + 1) bs v k (goes-on l b bs e))
  where
    by : (k : ℕ) → (v < b) ⊎ (b ≤ v) → k < interval (b ∷ bs) v → ((k : ℕ) → k < interval bs v → slice_index bs k ≤ v) → slice_index (b ∷ bs) k ≤ v
    by k (inl q) p rest = absurd (omega (arith, p, uncounted b v bs q, in-first (b + 1) v bs (goes-on l b bs e) (omega (arith, q))))
    by zero (inr q) p rest = q
    by (suc k) (inr q) p rest = rest k (omega (arith, p, counted b v bs q))

-- and any other is above it
behind-interval : (l : ℕ) (bs : List ℕ) (v k : ℕ) → ascends_from l bs ≡ true → interval bs v ≤ k → k < length bs → v < slice_index bs k
behind-interval l [] v k e p q = absurd (omega (arith, q))
behind-interval l (b ∷ bs) v k e p q = by k (cases_lt v b) p q (λ k. behind-interval (b + 1) bs v k (goes-on l b bs e))
  where
    by : (k : ℕ) → (v < b) ⊎ (b ≤ v) → interval (b ∷ bs) v ≤ k → k < length (b ∷ bs) → ((k : ℕ) → interval bs v ≤ k → k < length bs → v < slice_index bs k) → v < slice_index (b ∷ bs) k
    by zero (inl r) p q rest = r
    by (suc k) (inl r) p q rest = omega (arith, r, each-from (b + 1) bs k (goes-on l b bs e) (omega (arith, q)))
    by zero (inr r) p q rest = absurd (omega (arith, p, counted b v bs r))
    by (suc k) (inr r) p q rest = rest k (omega (arith, p, counted b v bs r)) (omega (arith, q))

-- where a test passes at the indices from one to another alone, the items there are kept
kept-between : (p : ℕ → Bool) (xs : List ℕ) (from to : ℕ) → ((k : ℕ) → k < from → k < length xs → p (slice_index xs k) ≡ false) → ((k : ℕ) → from ≤ k → k < to → k < length xs → p (slice_index xs k) ≡ true)
    → ((k : ℕ) → from ≤ k → to ≤ k → k < length xs → p (slice_index xs k) ≡ false) → filter p xs ≡ take (to - from) (drop from xs)
kept-between p [] from to front here back = by (to - from) from
  where
    by : (n m : ℕ) → [] ≡ take n (drop {A = ℕ} m [])
    by zero m = refl
    by (suc n) zero = refl
    by (suc n) (suc m) = refl
kept-between p (x ∷ xs) zero zero front here back =
    ap (λ t. cond t (x ∷ filter p xs) (filter p xs)) (back zero (omega arith) (omega arith) (omega arith))
    ∙ kept-between p xs zero zero (λ k q r. absurd (omega (arith, q))) (λ k q r s. absurd (omega (arith, r))) (λ k q r s. back (suc k) (omega arith) (omega arith) (omega (arith, s)))
kept-between p (x ∷ xs) zero (suc to) front here back =
    ap (λ t. cond t (x ∷ filter p xs) (filter p xs)) (here zero (omega arith) (omega arith) (omega arith))
    ∙ ap (λ ys. x ∷ ys) (kept-between p xs zero to (λ k q r. absurd (omega (arith, q))) (λ k q r s. here (suc k) (omega arith) (omega (arith, r)) (omega (arith, s))) (λ k q r s. back (suc k) (omega arith) (omega (arith, r)) (omega (arith, s))))
    ∙ one-more to
  where
    one-more : (to : ℕ) → x ∷ take (to - 0) xs ≡ take (suc to - 0) (x ∷ xs)
    one-more to =
        let longer : suc (to - 0) ≡ suc to - 0 = omega arith in
        ap (λ n. take n (x ∷ xs)) longer
kept-between p (x ∷ xs) (suc from) to front here back =
    ap (λ t. cond t (x ∷ filter p xs) (filter p xs)) (front zero (omega arith) (omega arith))
    ∙ kept-between p xs from (to - 1) (λ k q r. front (suc k) (omega (arith, q)) (omega (arith, r))) (λ k q r s. here (suc k) (omega (arith, q)) (omega (arith, r)) (omega (arith, s))) (λ k q r s. back (suc k) (omega (arith, q)) (omega (arith, r)) (omega (arith, s)))
    ∙ ap (λ n. take n (drop from xs)) (omega arith)

-- the boundaries above one number and not above another stand between the intervals of the two
pub stand-between : (bs : List ℕ) (lo hi : ℕ) → is_scale bs ≡ true → filter (λ v. nat_lt lo v && nat_le v hi) bs ≡ take (interval bs hi - interval bs lo) (drop (interval bs lo) bs)
stand-between bs lo hi e = kept-between (λ v. nat_lt lo v && nat_le v hi) bs (interval bs lo) (interval bs hi)
    (λ k q r. and_left (nat_lt lo (slice_index bs k)) (nat_le (slice_index bs k) hi) (le-ltb lo (slice_index bs k) (before-interval 1 bs lo k e q)))
    (λ k q r s. and_from (nat_lt lo (slice_index bs k)) (nat_le (slice_index bs k) hi) (lt-ltb lo (slice_index bs k) (behind-interval 1 bs lo k e q s)) (le-leb (slice_index bs k) hi (before-interval 1 bs hi k e r)))
    (λ k q r s. and_right (nat_lt lo (slice_index bs k)) (nat_le (slice_index bs k) hi) (lt-leb (slice_index bs k) hi (behind-interval 1 bs hi k e r s)))

-- and never fall
pub part-ascends : (bs : List ℕ) (n m : ℕ) → is_scale bs ≡ true → IsNonDecreasing (take n (drop m bs))
part-ascends bs n m e = IsNonDecreasingBy-take (λ x. x) n (drop m bs) (IsNonDecreasingBy-drop (λ x. x) m bs (IsNonDecreasingBy-from_default (λ x. x) bs 0 (λ i j p q. never-falls 1 bs i j e p q)))

-- what passes two tests
pub both-kept : (p q : ℕ → Bool) (xs : List ℕ) → filter q (filter p xs) ≡ filter (λ x. p x && q x) xs
both-kept p q [] = refl
both-kept p q (x ∷ xs) = by (p x) (both-kept p q xs)
  where
    by : (t : Bool) → filter q (filter p xs) ≡ filter (λ x. p x && q x) xs → filter q (cond t (x ∷ filter p xs) (filter p xs)) ≡ cond (t && q x) (x ∷ filter (λ x. p x && q x) xs) (filter (λ x. p x && q x) xs)
    by true e = ap (λ ys. cond (q x) (x ∷ ys) ys) e
    by false e = e
