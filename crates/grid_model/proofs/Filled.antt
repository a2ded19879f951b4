-- Lists that are filled from the front.
use Rattle.std.proofs.Common.{◌≡◌, ◌≢◌, ◌<◌, ◌≤◌, ◌+◌, ◌⊎◌, inl, inr, ℕ, List, length, slice_index, slice_set, sym, subst, arith}
use Rattle.std.proofs.lemmas.Bool.{cases_lt}
use Rattle.std.proofs.lemmas.List.{get_or-set_same, get_or-set_other}

-- what holds of a number below n and of n holds of a number up to n
pub below-more : (P : ℕ → Type 0) (n k : ℕ) → (k < n → P k) → P n → k < n + 1 → P k
below-more P n k front last p = by (cases_lt k n)
  where
    by : (k < n) ⊎ (n ≤ k) → P k
    by (inl r) = front r
    by (inr r) =
        let same : n ≡ k = omega (arith, p, r) in
        subst P same last

-- what holds at each index below a holds at each up to it, where it holds of what is written there
pub step : (P : ℕ → ℕ → Type 0) (xs : List ℕ) (a v : ℕ) → a < length xs → ((k : ℕ) → k < a → P k (slice_index xs k)) → P a v → (k : ℕ) → k < a + 1 → P k (slice_index (slice_set xs a v) k)
step P xs a v p below here k = below-more (λ k. P k (slice_index (slice_set xs a v) k)) a k
    (λ r.
    let other : k ≢ a = omega (arith, r) in
    subst (P k) (sym (get_or-set_other xs a k v 0 other)) (below k r))
    (subst (P a) (sym (get_or-set_same xs a v 0 p)) here)

-- the same of two lists that are filled together
pub step-both : (P : ℕ → ℕ → ℕ → Type 0) (xs ys : List ℕ) (a v w : ℕ) → a < length xs → a < length ys → ((k : ℕ) → k < a → P k (slice_index xs k) (slice_index ys k)) → P a v w
    → (k : ℕ) → k < a + 1 → P k (slice_index (slice_set xs a v) k) (slice_index (slice_set ys a w) k)
step-both P xs ys a v w p q below here k = below-more (λ k. P k (slice_index (slice_set xs a v) k) (slice_index (slice_set ys a w) k)) a k
    (λ r.
    let other : k ≢ a = omega (arith, r) in
    subst (λ (x : ℕ). P k x (slice_index (slice_set ys a w) k)) (sym (get_or-set_other xs a k v 0 other)) (subst (P k (slice_index xs k)) (sym (get_or-set_other ys a k w 0 other)) (below k r)))
    (subst (λ (x : ℕ). P a x (slice_index (slice_set ys a w) a)) (sym (get_or-set_same xs a v 0 p)) (subst (P a v) (sym (get_or-set_same ys a w 0 q)) here))
