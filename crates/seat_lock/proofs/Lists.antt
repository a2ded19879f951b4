-- Lists read by place, beginnings of lists, and the one slot that a seat has taken.
use Rattle.std.proofs.Common.{◌≡◌, ℕ, ◌<◌, ◌≢◌, ◌⊎◌, zero, suc, List, [], ◌∷◌, ◌++◌, length, set, sym, refl, ap, ◌∙◌, inl, inr, arith, Option, Some, append_assoc}
use Rattle.std.proofs.lemmas.Option.{same_Some}
use mathlib.Core.List.{append-nil}
use mathlib.Core.Option.{some, some-injective, some-ne-none}
use lib.ListN.{get_elem?}
use Rattle.atomic_table.specs.Table.{rest}
use Rattle.seat_lock.specs.Parts.{Begins, listing}

module _ {A : Type 0} where
  pub found_in_bounds : (l : List A) (i : ℕ) (a : A) → get_elem? l i ≡ some a → i < length l
  found_in_bounds [] i a e = absurd (some-ne-none a (sym e))
  found_in_bounds (x ∷ xs) zero a e = omega arith
  found_in_bounds (x ∷ xs) (suc i) a e = let h = found_in_bounds xs i a e in omega arith

  pub begins_trans : (xs ys zs : List A) → Begins xs ys → Begins ys zs → Begins xs zs
  begins_trans xs ys zs a b = (a.0 ++ b.0, sym (append_assoc xs a.0 b.0) ∙ (ap (λ z. z ++ b.0) a.1 ∙ b.1))

  pub begins_self : (xs : List A) → Begins xs xs
  begins_self xs = ([], append-nil xs)

  pub begins_empty : (xs : List A) → Begins xs [] → xs ≡ []
  begins_empty [] b = refl
  begins_empty (x ∷ xs) b = cc (b.1)

  pub set_swap : (l : List A) (i j : ℕ) (a b : A) → i ≢ j → set (set l i a) j b ≡ set (set l j b) i a
  set_swap [] i j a b ne = refl
  set_swap (x ∷ xs) zero zero a b ne = absurd (ne refl)
  set_swap (x ∷ xs) zero (suc j) a b ne = refl
  set_swap (x ∷ xs) (suc i) zero a b ne = refl
  set_swap (x ∷ xs) (suc i) (suc j) a b ne = ap (λ l. x ∷ l) (set_swap xs i j a b (λ e. ne (ap suc e)))

  pub found_at_end : (l : List A) (a b : A) (j : ℕ) → get_elem? (l ++ a ∷ []) j ≡ some b → (get_elem? l j ≡ some b) ⊎ ((j ≡ length l) × (a ≡ b))
  found_at_end [] a b zero e = inr (refl, some-injective a b e)
  found_at_end [] a b (suc j) e = absurd (some-ne-none b (sym e))
  found_at_end (x ∷ xs) a b zero e = inl e
  found_at_end (x ∷ xs) a b (suc j) e = elim (found_at_end xs a b j e) [ inl t ↦ inl t | inr t ↦ inr (ap suc t.0, t.1) ]

  pub found_alone : (a b : A) (j : ℕ) → get_elem? (a ∷ []) j ≡ some b → (j ≡ 0) × (a ≡ b)
  found_alone a b zero e = (refl, some-injective a b e)
  found_alone a b (suc j) e = absurd (some-ne-none b (sym e))

-- the places of two seats that are one are one
pub same_place : {P : Type 0} → (s t : ℕ × P) → Some s ≡ Some t → s.0 ≡ t.0
same_place s t e = ap (λ z. z.0) (same_Some s t e)

abbrev slot_or : {S : Type 0} → S → List (ℕ × S) → S
slot_or d [] = d
slot_or d (x ∷ xs) = x.1

-- one slot has one value
pub one_value : {C : Type 0} → (l : List (ℕ × Option C)) (a b : C) → l ≡ (0, Some a) ∷ [] → l ≡ (0, Some b) ∷ [] → a ≡ b
one_value l a b e f = same_Some a b (ap (slot_or (Some a)) (sym e ∙ f))

-- what the one slot has, where it was found to have some value
pub value_found : {C : Type 0} {found : Option C} {core : C} (l : List (ℕ × Option C)) (a : C) → l ≡ (0, Some a) ∷ [] → l ≡ (0, found) ∷ rest l → found ≡ Some core → a ≡ core
value_found l a e value is = one_value l a _ e (value ∙ (λ i. (0, is i) ∷ rest (e i)))

-- the one slot stands first
pub slot_first : {S : Type 0} → (l : List (ℕ × S)) (a : S) → l ≡ (0, a) ∷ [] → l ≡ (0, a) ∷ rest l
slot_first l a e = e ∙ sym (ap (λ k. (0, a) ∷ rest k) e)

-- with another value in it, it still stands alone
pub slot_alone : {S : Type 0} → (l : List (ℕ × S)) (a b : S) → l ≡ (0, a) ∷ [] → (0, b) ∷ rest l ≡ (0, b) ∷ []
slot_alone l a b e = ap (λ k. (0, b) ∷ rest k) e

module _ {P : Type 0} where
  pub listing-found : (f : ℕ → Option P) (n p : ℕ) (x : Option P) → get_elem? (listing f n) p ≡ some x → f p ≡ x
  listing-found f zero p x e = absurd (some-ne-none x (sym e))
  listing-found f (suc n) zero x e = some-injective (f 0) x e
  listing-found f (suc n) (suc p) x e = listing-found (λ q. f (suc q)) n p x e

  pub listing-at : (f : ℕ → Option P) (n p : ℕ) → p < n → get_elem? (listing f n) p ≡ some (f p)
  listing-at f zero p h = absurd (omega arith)
  listing-at f (suc n) zero h = refl
  listing-at f (suc n) (suc p) h = listing-at (λ q. f (suc q)) n p (omega arith)

  pub listing-length : (f : ℕ → Option P) (n : ℕ) → length (listing f n) ≡ n
  listing-length f zero = refl
  listing-length f (suc n) = let e = listing-length (λ q. f (suc q)) n in omega arith
