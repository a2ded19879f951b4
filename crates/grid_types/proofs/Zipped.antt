-- Two lists of numbers, combined place by place.
use Rattle.std.proofs.Common.{◌≡◌, ◌<◌, ℕ, zero, suc, List, [], ◌∷◌, length, slice_index, refl, sym, arith}
use Rattle.grid_types.specs.Lists.{zip_with}

-- the combined list is as long as the two
pub long-zip : (f : ℕ → ℕ → ℕ) (xs ys : List ℕ) → length xs ≡ length ys → length (zip_with f xs ys) ≡ length xs
long-zip f [] ys e = refl
long-zip f (x ∷ xs) [] e = absurd (omega (arith, e))
long-zip f (x ∷ xs) (y ∷ ys) e = omega (arith, long-zip f xs ys (omega (arith, e)))

-- and has at each place what f makes of the two numbers there
pub zip-at : (f : ℕ → ℕ → ℕ) → f 0 0 ≡ 0 → (xs ys : List ℕ) (a : ℕ) → length xs ≡ length ys → slice_index (zip_with f xs ys) a ≡ f (slice_index xs a) (slice_index ys a)
zip-at f z [] [] a e = sym z
zip-at f z [] (y ∷ ys) a e = absurd (omega (arith, e))
zip-at f z (x ∷ xs) [] a e = absurd (omega (arith, e))
zip-at f z (x ∷ xs) (y ∷ ys) zero e = refl
zip-at f z (x ∷ xs) (y ∷ ys) (suc a) e = zip-at f z xs ys a (omega (arith, e))

pub zip-turned : (f : ℕ → ℕ → ℕ) → ((x y : ℕ) → f x y ≡ f y x) → (xs ys : List ℕ) → zip_with f xs ys ≡ zip_with f ys xs
zip-turned f turn [] [] = refl
zip-turned f turn [] (y ∷ ys) = refl
zip-turned f turn (x ∷ xs) [] = refl
zip-turned f turn (x ∷ xs) (y ∷ ys) = λ i. turn x y i ∷ zip-turned f turn xs ys i

-- a list that has these numbers at its places is the combined one
pub is-zip : (f : ℕ → ℕ → ℕ) (xs ys zs : List ℕ) → length xs ≡ length ys → length zs ≡ length xs
    → ((a : ℕ) → a < length xs → slice_index zs a ≡ f (slice_index xs a) (slice_index ys a)) → zs ≡ zip_with f xs ys
is-zip f [] ys [] e l h = refl
is-zip f [] ys (z ∷ zs) e l h = absurd (omega (arith, l))
is-zip f (x ∷ xs) [] zs e l h = absurd (omega (arith, e))
is-zip f (x ∷ xs) (y ∷ ys) [] e l h = absurd (omega (arith, l))
is-zip f (x ∷ xs) (y ∷ ys) (z ∷ zs) e l h =
    let head = h zero (omega arith) in
    let rest = is-zip f xs ys zs (omega (arith, e)) (omega (arith, l)) (λ a p. h (suc a) (omega (arith, p))) in
    λ i. head i ∷ rest i
