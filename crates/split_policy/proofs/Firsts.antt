-- The first of several options that there is.
use Rattle.std.proofs.Common.{◌≡◌, ◌<◌, ℕ, zero, suc, List, [], ◌∷◌, length, slice_index, map, Option, Some, None, refl, ap, ◌∙◌, arith}
use Rattle.grid_model.specs.Lists.{or_else, first_some}

module _ {Y : Type 0} (f : ℕ → Option Y) where
  -- what stands at an index before which there is none is the first
  pub found-first : (xs : List ℕ) (i : ℕ) (y : Y) → i < length xs → ((k : ℕ) → k < i → f (slice_index xs k) ≡ None) → f (slice_index xs i) ≡ Some y → first_some (map f xs) ≡ Some y
  found-first [] i y p none e = absurd (omega (arith, p))
  found-first (x ∷ xs) zero y p none e = ap (λ o. or_else o (first_some (map f xs))) e
  found-first (x ∷ xs) (suc i) y p none e =
      ap (λ o. or_else o (first_some (map f xs))) (none zero (omega arith)) ∙ found-first xs i y (omega (arith, p)) (λ k q. none (suc k) (omega (arith, q))) e

  -- where there is none at each index there is no first
  pub found-none : (xs : List ℕ) → ((k : ℕ) → k < length xs → f (slice_index xs k) ≡ None) → first_some (map f xs) ≡ None
  found-none [] none = refl
  found-none (x ∷ xs) none = ap (λ o. or_else o (first_some (map f xs))) (none zero (omega arith)) ∙ found-none xs (λ k q. none (suc k) (omega (arith, q)))
