-- Tests of two lists of numbers, and of the keys of a region.
use Rattle.std.proofs.Common.{◌≡◌, ◌<◌, ◌≤◌, ◌↔◌, ◌+◌, ◌⊎◌, inl, inr, ℕ, zero, suc, Bool, true, false, ◌&&◌, List, [], ◌∷◌, length, slice_index, nat_le, IsTrue, refl, ap, sym, subst, arith, le-leb, leb-true, true≢false}
use Rattle.std.proofs.lemmas.Bool.{lt-leb, cases_lt}
use lib.Pointwise.{pointwise}
use Rattle.grid_types.specs.Regions.{Within}
use Rattle.grid_types.proofs.Each.{fails-last}

-- what holds of each number below another one, and of that one, holds of each number below the next
pub one-more : (P : ℕ → Type 0) (a : ℕ) → ((k : ℕ) → k < a → P k) → P a → (k : ℕ) → k < a + 1 → P k
one-more P a below here k l = by (cases_lt k a)
  where
    by : (k < a) ⊎ (a ≤ k) → P k
    by (inl h) = below k h
    by (inr h) =
        let same : a ≡ k = omega (arith, h, l) in
        subst P same here

pub both : (a b : Bool) → a ≡ true → b ≡ true → (a && b) ≡ true
both true b p q = q
both false b p q = absurd (true≢false (sym p))

pub first : (a b : Bool) → (a && b) ≡ true → a ≡ true
first true b p = refl
first false b p = absurd (true≢false (sym p))

pub second : (a b : Bool) → (a && b) ≡ true → b ≡ true
second true b p = p
second false b p = absurd (true≢false (sym p))

-- each number is at most the other at its place
pub all-at-most : (xs ys : List ℕ) → length xs ≡ length ys → ((i : ℕ) → i < length xs → slice_index xs i ≤ slice_index ys i) → pointwise nat_le xs ys ≡ true
all-at-most [] [] l h = refl
all-at-most [] (y ∷ ys) l h = absurd (omega (arith, l))
all-at-most (x ∷ xs) [] l h = absurd (omega (arith, l))
all-at-most (x ∷ xs) (y ∷ ys) l h =
    both (nat_le x y) (pointwise nat_le xs ys) (le-leb x y (h zero (omega arith))) (all-at-most xs ys (omega (arith, l)) (λ i p. h (suc i) (omega (arith, p))))

pub each-at-most : (xs ys : List ℕ) (i : ℕ) → pointwise nat_le xs ys ≡ true → i < length xs → slice_index xs i ≤ slice_index ys i
each-at-most [] ys i e l = absurd (omega (arith, l))
each-at-most (x ∷ xs) [] i e l = absurd (true≢false (sym e))
each-at-most (x ∷ xs) (y ∷ ys) zero e l = leb-true x y (first (nat_le x y) (pointwise nat_le xs ys) e)
each-at-most (x ∷ xs) (y ∷ ys) (suc i) e l = each-at-most xs ys i (second (nat_le x y) (pointwise nat_le xs ys) e) (omega (arith, l))

-- lists that are compared pair by pair are of one length
pub as-long : (xs ys : List ℕ) → pointwise nat_le xs ys ≡ true → length xs ≡ length ys
as-long [] [] e = refl
as-long [] (y ∷ ys) e = absurd (true≢false (sym e))
as-long (x ∷ xs) [] e = absurd (true≢false (sym e))
as-long (x ∷ xs) (y ∷ ys) e = omega (arith, as-long xs ys (second (nat_le x y) (pointwise nat_le xs ys) e))

-- one number is above the other at its place
pub one-above : (xs ys : List ℕ) (i : ℕ) → i < length xs → slice_index ys i < slice_index xs i → pointwise nat_le xs ys ≡ false
one-above [] ys i l h = absurd (omega (arith, l))
one-above (x ∷ xs) [] i l h = refl
one-above (x ∷ xs) (y ∷ ys) zero l h = ap (λ t. t && pointwise nat_le xs ys) (lt-leb x y h)
one-above (x ∷ xs) (y ∷ ys) (suc i) l h = fails-last (nat_le x y) (pointwise nat_le xs ys) (one-above xs ys i (omega (arith, l)) h)

-- a region contains exactly the keys that lie within it
pub contains-within : (lo hi at : List ℕ) → length lo ≡ length at → length at ≡ length hi → IsTrue (pointwise nat_le lo at && pointwise nat_le at hi) ↔ Within lo hi at
contains-within lo hi at l h = (
  λ e a i. (each-at-most lo at a (first (pointwise nat_le lo at) (pointwise nat_le at hi) e) (omega (arith, l, i)), each-at-most at hi a (second (pointwise nat_le lo at) (pointwise nat_le at hi) e) i),
  λ w. both (pointwise nat_le lo at) (pointwise nat_le at hi) (all-at-most lo at l (λ i p. (w i (omega (arith, l, p))).0)) (all-at-most at hi h (λ i p. (w i p).1)),
)

pub decided-within : (b : Bool) (lo hi at : List ℕ) → length lo ≡ length at → length at ≡ length hi → b ≡ (pointwise nat_le lo at && pointwise nat_le at hi) → IsTrue b ↔ Within lo hi at
decided-within b lo hi at l h e = subst (λ t. IsTrue t ↔ Within lo hi at) (sym e) (contains-within lo hi at l h)
