-- The elements of lists that are made of others.
use Rattle.std.proofs.Common.{◌≡◌, ◌<◌, ◌≤◌, ◌⊎◌, inl, inr, ◌+◌, ℕ, zero, suc, Bool, true, false, cond, ◌&&◌, List, [], ◌∷◌, ◌++◌, map, refl, sym, ap, subst, ◌∙◌, arith}
use Rattle.std.specs.Prelude.{slice_get, Option, Some, None, filter, option_map}
use Rattle.std.specs.List.{range_with_len, find}
use Rattle.std.proofs.lemmas.Option.{same_Some}
use Rattle.std.specs.Prelude.{Contains}
use Rattle.grid_model.proofs.Members.{contains-first, contains-later, contains-split, contains-none}

-- an element of a list
pub data Among {X : Type 0} : X → List X → Type 0 where
  here : {x : X} {xs : List X} → Among x (x ∷ xs)
  there : {x y : X} {xs : List X} → Among x xs → Among x (y ∷ xs)

-- a list contains its elements
pub contains_it : {X : Type 0} (x : X) (xs : List X) → Among x xs → Contains xs x
contains_it x [] m = elim m [ ]
contains_it x (_ ∷ xs) here = contains-first x xs
contains_it x (y ∷ xs) (there m) = contains-later y xs x (contains_it x xs m)

-- and no others
pub among_these : {X : Type 0} (x : X) (xs : List X) → Contains xs x → Among x xs
among_these x [] h = contains-none x h
among_these x (y ∷ xs) h = elim (contains-split y xs x h) [ inl e ↦ subst (λ z. Among z (y ∷ xs)) e here | inr rest ↦ there (among_these x xs rest) ]

pub among_at : {X : Type 0} (xs : List X) (i : ℕ) (x : X) → slice_get xs i ≡ Some x → Among x xs
among_at [] i x is = absurd cc
among_at (y ∷ xs) zero x is = subst (λ z. Among z (y ∷ xs)) (same_Some y x is) here
among_at (y ∷ xs) (suc i) x is = there (among_at xs i x is)

pub first_or : {X : Type 0} (z x : X) (xs : List X) → Among x (z ∷ xs) → (x ≡ z) ⊎ Among x xs
first_or z x xs here = inl refl
first_or z x xs (there m) = inr m

pub place_of : {X : Type 0} (x : X) (xs : List X) → Among x xs → (i : ℕ) × (slice_get xs i ≡ Some x)
place_of x [] m = elim m [ ]
place_of x (y ∷ xs) here = (0, refl)
place_of x (y ∷ xs) (there m) = let rest = place_of x xs m in (suc rest.0, rest.1)

pub among_map : {X Y : Type 0} (f : X → Y) (x : X) (xs : List X) → Among x xs → Among (f x) (map f xs)
among_map f x [] m = elim m [ ]
among_map f x (y ∷ xs) here = here
among_map f x (y ∷ xs) (there m) = there (among_map f x xs m)

pub from_map : {X Y : Type 0} (f : X → Y) (xs : List X) (y : Y) → Among y (map f xs) → (x : X) × Among x xs × (y ≡ f x)
from_map f [] y m = elim m [ ]
from_map f (x ∷ xs) y here = (x, here, refl)
from_map f (x ∷ xs) y (there m) = let rest = from_map f xs y m in (rest.0, there rest.1, rest.2)

pub among_left : {X : Type 0} (x : X) (xs ys : List X) → Among x xs → Among x (xs ++ ys)
among_left x [] ys m = elim m [ ]
among_left x (z ∷ xs) ys here = here
among_left x (z ∷ xs) ys (there m) = there (among_left x xs ys m)

pub among_right : {X : Type 0} (x : X) (xs ys : List X) → Among x ys → Among x (xs ++ ys)
among_right x [] ys m = m
among_right x (z ∷ xs) ys m = there (among_right x xs ys m)

pub from_append : {X : Type 0} (x : X) (xs ys : List X) → Among x (xs ++ ys) → Among x xs ⊎ Among x ys
from_append x [] ys m = inr m
from_append x (z ∷ xs) ys here = inl here
from_append x (z ∷ xs) ys (there m) = elim (from_append x xs ys m) [ inl old ↦ inl (there old) | inr new ↦ inr new ]

module _ {X : Type 0} (test : X → Bool) where
  kept_by : (b : Bool) (x y : X) (ys : List X) → test x ≡ b → Among y (cond b (x ∷ ys) ys) → ((y ≡ x) × (test x ≡ true)) ⊎ Among y ys
  kept_by true x y ys is here = inl (refl, is)
  kept_by true x y ys is (there m) = inr m
  kept_by false x y ys is m = inr m

  pub from_filter : (xs : List X) (y : X) → Among y (filter test xs) → Among y xs × (test y ≡ true)
  from_filter [] y m = elim m [ ]
  from_filter (x ∷ xs) y m = elim (kept_by (test x) x y (filter test xs) refl m) [
    | inl first ↦ (subst (λ z. Among z (x ∷ xs)) (sym first.0) here, ap test first.0 ∙ first.1)
    | inr rest ↦ let old = from_filter xs y rest in (there old.0, old.1)
  ]

  among_cond : (b : Bool) (x y : X) (ys : List X) → Among y ys → Among y (cond b (x ∷ ys) ys)
  among_cond true x y ys m = there m
  among_cond false x y ys m = m

  among_first : (b : Bool) (x : X) (ys : List X) → b ≡ true → Among x (cond b (x ∷ ys) ys)
  among_first true x ys is = here
  among_first false x ys is = absurd cc

  pub among_filter : (y : X) (xs : List X) → Among y xs → test y ≡ true → Among y (filter test xs)
  among_filter y [] m is = elim m [ ]
  among_filter y (x ∷ xs) here is = among_first (test y) y (filter test xs) is
  among_filter y (x ∷ xs) (there m) is = among_cond (test x) x y (filter test xs) (among_filter y xs m is)

  pub found_none : (xs : List X) → ((y : X) → Among y xs → test y ≡ false) → find test xs ≡ None
  found_none [] no_one = refl
  found_none (x ∷ xs) no_one = ap (λ b. cond b (Some x) (find test xs)) (no_one x here) ∙ found_none xs (λ y m. no_one y (there m))

-- what is found among the images of elements is the image of the one that is found
pub find_through : {S X : Type 0} (f : S → X) (keep test : X → Bool) (xs : List S) → find test (filter keep (map f xs)) ≡ option_map f (find (λ s. keep (f s) && test (f s)) xs)
find_through f keep test [] = refl
find_through {S} {X} f keep test (x ∷ xs) = by (keep (f x)) (find_through f keep test xs)
  where
    kept : (b : Bool) (r : Option X) (t : Option S) → r ≡ option_map f t → cond b (Some (f x)) r ≡ option_map f (cond b (Some x) t)
    kept true r t same = refl
    kept false r t same = same

    by : (a : Bool) → find test (filter keep (map f xs)) ≡ option_map f (find (λ s. keep (f s) && test (f s)) xs)
        → find test (cond a (f x ∷ filter keep (map f xs)) (filter keep (map f xs))) ≡ option_map f (cond (a && test (f x)) (Some x) (find (λ s. keep (f s) && test (f s)) xs))
    by true same = kept (test (f x)) (find test (filter keep (map f xs))) (find (λ s. keep (f s) && test (f s)) xs) same
    by false same = same

pub among_range : (i a n : ℕ) → a ≤ i → i < a + n → Among i (range_with_len a n)
among_range i a zero low high = absurd (omega (arith, low, high))
among_range i a (suc n) low high = elim (split i a low) [
  | inl same ↦ subst (λ (z : ℕ). Among z (a ∷ range_with_len (a + 1) n)) (sym same) here
  | inr more ↦ there (among_range i (a + 1) n more (omega (arith, high)))
]
  where
    split : (i a : ℕ) → a ≤ i → (i ≡ a) ⊎ (a + 1 ≤ i)
    split i a low = grind (arith, low)

pub from_range : (a n i : ℕ) → Among i (range_with_len a n) → (a ≤ i) × (i < a + n)
from_range a zero i m = elim m [ ]
from_range a (suc n) _ here = (omega arith, omega arith)
from_range a (suc n) i (there m) = let rest = from_range (a + 1) n i m in (omega (arith, rest.0), omega (arith, rest.1))
