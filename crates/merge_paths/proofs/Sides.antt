-- What a function gives first of a list of items.
use Rattle.std.proofs.Common.{◌≡◌, ◌<◌, ◌≤◌, ◌+◌, ◌⊎◌, inl, inr, ℕ, zero, suc, List, [], ◌∷◌, filter_map, slice_get, Option, Some, None, Contains, refl, sym, ap, ◌∙◌, subst, arith}
use Rattle.std.proofs.lemmas.Bool.{cases_lt}
use Rattle.std.specs.List.{cons_option}
use Rattle.grid_model.proofs.Boxes.{one-value, some-not-none}
use Rattle.grid_model.proofs.Members.{contains-first, contains-later}

module _ {X Y : Type 0} (f : X → Option Y) where
  -- a function gives nothing of the items before an index
  abbrev pub NoneBefore : List X → ℕ → Type 0
  NoneBefore xs i = (j : ℕ) (x : X) → j < i → slice_get xs j ≡ Some x → f x ≡ None

  -- nor of those before the next one, where it gives nothing of this one
  pub none-on : (xs : List X) (i : ℕ) (x : X) → slice_get xs i ≡ Some x → f x ≡ None → NoneBefore xs i → NoneBefore xs (i + 1)
  none-on xs i x g e h j z l q = by (cases_lt j i)
    where
      by : (j < i) ⊎ (i ≤ j) → f z ≡ None
      by (inl m) = h j z m q
      by (inr m) =
          let same : j ≡ i = omega (arith, l, m) in
          ap f (one-value z x (sym q ∙ ap (slice_get xs) same ∙ g)) ∙ e

  -- what it gives of an item is the first, where it gives nothing of those before
  pub first-given : (xs : List X) (i : ℕ) (x : X) (y : Y) → slice_get xs i ≡ Some x → f x ≡ Some y → NoneBefore xs i → slice_get (filter_map f xs) 0 ≡ Some y
  first-given [] i x y g e h = absurd (some-not-none x (sym g))
  first-given (z ∷ zs) zero x y g e h = ap (λ o. slice_get (cons_option o (filter_map f zs)) 0) (ap f (one-value z x g) ∙ e)
  first-given (z ∷ zs) (suc i) x y g e h = ap (λ o. slice_get (cons_option o (filter_map f zs)) 0) (h 0 z (omega arith) refl) ∙ first-given zs i x y g e (λ j w l q. h (suc j) w (omega (arith, l)) q)

  -- there is none, where it gives nothing of all
  pub none-given : (xs : List X) (n : ℕ) → slice_get xs n ≡ None → NoneBefore xs n → slice_get (filter_map f xs) 0 ≡ None
  none-given [] n e h = refl
  none-given (z ∷ zs) zero e h = absurd (some-not-none z e)
  none-given (z ∷ zs) (suc n) e h = ap (λ o. slice_get (cons_option o (filter_map f zs)) 0) (h 0 z (omega arith) refl) ∙ none-given zs n e (λ j w l q. h (suc j) w (omega (arith, l)) q)

-- an item at an index is one of the list
pub contains-at : {X : Type 0} (xs : List X) (i : ℕ) (x : X) → slice_get xs i ≡ Some x → Contains xs x
contains-at [] i x g = absurd (some-not-none x (sym g))
contains-at (z ∷ zs) zero x g = subst (Contains (z ∷ zs)) (one-value z x g) (contains-first z zs)
contains-at (z ∷ zs) (suc i) x g = contains-later z zs x (contains-at zs i x g)
