-- Steps of loops that push or set one element more.
use Rattle.std.proofs.Common.{◌≡◌, ◌<◌, ◌⊎◌, inl, inr, ◌+◌, ℕ, List, [], ◌∷◌, ◌++◌, length, get_or, slice_index, slice_set, replicate, zero, suc, ◌^◌, lit<, refl, sym, subst, arith}
use Rattle.std.proofs.lemmas.List.{get_or_append_left, get_or_at, length_push}
use Rattle.std.proofs.lemmas.Grind.{common_steps}

-- what is below the next number is below this one, or is it
pub below_or_at : (i n : ℕ) → i < n + 1 → (i < n) ⊎ (i ≡ n)
below_or_at i n h = grind arith

-- a fact of each element and its place, when one more is pushed
pub push_each : {X : Type 0} (P : ℕ → X → Type 0) (xs : List X) (x : X) → ((i : ℕ) (d : X) → i < length xs → P i (get_or xs i d)) → P (length xs) x
    → (i : ℕ) (d : X) → i < length (xs ++ x ∷ []) → P i (get_or (xs ++ x ∷ []) i d)
push_each P xs x each last i d h =
    elim (below_or_at i (length xs) (omega (arith, h, length_push xs x))) [
      | inl lt ↦ subst (P i) (sym (get_or_append_left xs (x ∷ []) d i lt)) (each i d lt)
      | inr e ↦ subst (λ k. P k (get_or (xs ++ x ∷ []) k d)) (sym e) (subst (P (length xs)) (sym (get_or_at xs x [] d (length xs) refl)) last)
    ]

-- a fact of each number and its place, when the next one is set
pub set_each : (f : ℕ → ℕ) (xs : List ℕ) (a x : ℕ) → a < length xs → ((k : ℕ) → k < a → slice_index xs k ≡ f k) → x ≡ f a → (k : ℕ) → k < a + 1 → slice_index (slice_set xs a x) k ≡ f k
set_each f xs a x lt each is k h = grind (arith, common_steps)

-- a bound of each number, when one is set to another below it
pub set_below : (n : ℕ) (xs : List ℕ) (a x : ℕ) → x < n → 0 < n → ((k : ℕ) → slice_index xs k < n) → (k : ℕ) → slice_index (slice_set xs a x) k < n
set_below n xs a x lt pos fit k = grind (arith, common_steps)

-- zeros lie in every range
pub zeros_fit : (n k : ℕ) → slice_index (replicate n 0) k < 2 ^ 64
zeros_fit zero k = lit< tt
zeros_fit (suc n) zero = lit< tt
zeros_fit (suc n) (suc k) = zeros_fit n k
