-- The directions by their index.
use Rattle.std.proofs.Common.{◌≡◌, ◌<◌, ◌≤◌, ◌+◌, ◌*◌, ◌/◌, ◌%◌, ℕ, zero, suc, List, flat_map, slice_get, Some, None, refl, sym, ap, ◌∙◌, arith}
use Rattle.std.specs.List.{range_with_len}
use Rattle.grid_model.specs.Neighbours.{Direction, Below, Above, directions_of, directions}

-- the directions of n attributes from one on
abbrev directions_from : ℕ → ℕ → List Direction
directions_from s n = flat_map directions_of (range_with_len s n)

below-from : (s n j : ℕ) → j < n → slice_get (directions_from s n) (2 * j) ≡ Some (Below (s + j))
below-from s zero j h = absurd (omega (arith, h))
below-from s (suc n) zero h = ap (λ a. Some (Below a)) (omega arith)
below-from s (suc n) (suc j) h =
    let e : 2 * suc j ≡ suc (suc (2 * j)) = omega arith in
    let f : s + 1 + j ≡ s + suc j = omega arith in
    ap (slice_get (directions_from s (suc n))) e ∙ below-from (s + 1) n j (omega (arith, h)) ∙ ap (λ a. Some (Below a)) f

above-from : (s n j : ℕ) → j < n → slice_get (directions_from s n) (2 * j + 1) ≡ Some (Above (s + j))
above-from s zero j h = absurd (omega (arith, h))
above-from s (suc n) zero h = ap (λ a. Some (Above a)) (omega arith)
above-from s (suc n) (suc j) h =
    let e : 2 * suc j + 1 ≡ suc (suc (2 * j + 1)) = omega arith in
    let f : s + 1 + j ≡ s + suc j = omega arith in
    ap (slice_get (directions_from s (suc n))) e ∙ above-from (s + 1) n j (omega (arith, h)) ∙ ap (λ a. Some (Above a)) f

past-from : (s n i : ℕ) → 2 * n ≤ i → slice_get (directions_from s n) i ≡ None
past-from s zero i h = refl
past-from s (suc n) zero h = absurd (omega (arith, h))
past-from s (suc n) (suc zero) h = absurd (omega (arith, h))
past-from s (suc n) (suc (suc i)) h = past-from (s + 1) n i (omega (arith, h))

-- the even ones are below their attribute
pub below-at : (K i : ℕ) → i < 2 * K → i % 2 ≡ 0 → Some (Below (i / 2)) ≡ slice_get (directions K) i
below-at K i h even =
    let e : 2 * (i / 2) ≡ i = omega (arith, even) in
    let inside : i / 2 < K = omega (arith, h, even) in
    let same : 0 + i / 2 ≡ i / 2 = omega arith in
    sym (ap (slice_get (directions K)) (sym e) ∙ below-from 0 K (i / 2) inside ∙ ap (λ a. Some (Below a)) same)

-- the odd ones above it
pub above-at : (K i : ℕ) → i < 2 * K → (i % 2 ≡ 0 → ⊥) → Some (Above (i / 2)) ≡ slice_get (directions K) i
above-at K i h odd =
    let e : 2 * (i / 2) + 1 ≡ i = omega (arith, odd) in
    let inside : i / 2 < K = omega (arith, h, e) in
    let same : 0 + i / 2 ≡ i / 2 = omega arith in
    sym (ap (slice_get (directions K)) (sym e) ∙ above-from 0 K (i / 2) inside ∙ ap (λ a. Some (Above a)) same)

-- and there are two for each attribute
pub past-all : (K i : ℕ) → 2 * K ≤ i → None ≡ slice_get (directions K) i
past-all K i h = sym (past-from 0 K i h)
