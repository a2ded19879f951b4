-- Which of several options is taken.
use Rattle.std.proofs.Common.{◌≡◌, ◌<◌, ◌⊎◌, inl, inr, ℕ, zero, suc, List, [], ◌∷◌, length, slice_index, map, Contains, Option, Some, None, option_map, refl, sym, subst, arith}
use Rattle.std.proofs.lemmas.Option.{none-some, same_Some}
use Rattle.grid_model.specs.Lists.{or_else, first_some}
use Rattle.grid_model.proofs.Members.{contains-none, contains-split}

module _ {X : Type 0} where
  -- what is taken of two is the first, or the second where there is no first
  pub or-else-some : (o p : Option X) (x : X) → or_else o p ≡ Some x → (o ≡ Some x) ⊎ ((o ≡ None) × (p ≡ Some x))
  or-else-some None p x e = inr (refl, e)
  or-else-some (Some y) p x e = inl e

  -- nothing is taken only where there is neither
  pub or-else-none : (o p : Option X) → or_else o p ≡ None → (o ≡ None) × (p ≡ None)
  or-else-none None p e = (refl, e)
  or-else-none (Some y) p e = absurd (none-some y (sym e))

module _ {X Y : Type 0} (f : X → Y) where
  -- an image is that of what there was
  pub map-some : (o : Option X) (y : Y) → option_map f o ≡ Some y → (x : X) × (o ≡ Some x) × (f x ≡ y)
  map-some None y e = absurd (none-some y e)
  map-some (Some x) y e = (x, refl, same_Some (f x) y e)

  -- there is no image only where there was nothing
  pub map-none : (o : Option X) → option_map f o ≡ None → o ≡ None
  map-none None e = refl
  map-none (Some x) e = absurd (none-some (f x) (sym e))

-- where the first of some options stands: none stands before it
pub record FirstAt {Y : Type 0} (f : ℕ → Option Y) (xs : List ℕ) (y : Y) : Type 0 where
  pub place : ℕ
  pub inside : place < length xs
  pub there : f (slice_index xs place) ≡ Some y
  pub before : (k : ℕ) → k < place → f (slice_index xs k) ≡ None

module _ {Y : Type 0} (f : ℕ → Option Y) where
  none-before : (x : ℕ) (xs : List ℕ) (n k : ℕ) → f x ≡ None → ((k : ℕ) → k < n → f (slice_index xs k) ≡ None) → k < suc n → f (slice_index (x ∷ xs) k) ≡ None
  none-before x xs n zero e rest p = e
  none-before x xs n (suc k) e rest p = rest k (omega (arith, p))

  -- the first that there is stands somewhere, with none before it
  pub first-there : (xs : List ℕ) (y : Y) → first_some (map f xs) ≡ Some y → FirstAt f xs y
  first-there [] y e = absurd (none-some y e)
  first-there (x ∷ xs) y e = by (or-else-some (f x) (first_some (map f xs)) y e) (first-there xs y)
    where
      later : f x ≡ None → FirstAt f xs y → FirstAt f (x ∷ xs) y
      later n r = record { place = suc r.place; inside = omega (arith, r.inside); there = r.there; before = λ k p. none-before x xs r.place k n r.before p }

      by : (f x ≡ Some y) ⊎ ((f x ≡ None) × (first_some (map f xs) ≡ Some y)) → (first_some (map f xs) ≡ Some y → FirstAt f xs y) → FirstAt f (x ∷ xs) y
      by (inl s) rest = record { place = 0; inside = omega arith; there = s; before = λ k p. absurd (omega (arith, p)) }
      by (inr g) rest = later g.0 (rest g.1)

  -- where there is none at all, there is none of each
  pub none-there : (xs : List ℕ) (x : ℕ) → first_some (map f xs) ≡ None → Contains xs x → f x ≡ None
  none-there [] x e h = contains-none x h
  none-there (y ∷ ys) x e h = by (contains-split y ys x h) (or-else-none (f y) (first_some (map f ys)) e) (none-there ys x)
    where
      by : (y ≡ x) ⊎ Contains ys x → (f y ≡ None) × (first_some (map f ys) ≡ None) → (first_some (map f ys) ≡ None → Contains ys x → f x ≡ None) → f x ≡ None
      by (inl s) g rest = subst (λ (z : ℕ). f z ≡ None) s g.0
      by (inr k) g rest = rest g.1 k
