-- How many keys lie below a number, counted among their numbers in an attribute that ascend.
use Rattle.std.proofs.Common.{◌≡◌, ◌<◌, ◌≤◌, ◌-◌, ◌⊎◌, inl, inr, ℕ, zero, suc, Bool, true, false, cond, not, List, [], ◌∷◌, length, map, filter, slice_index, nat_lt, nat_le, refl, sym, ap, ◌∙◌, arith}
use Rattle.std.specs.Prelude.{IsPermutation}
use Rattle.std.specs.List.{refill}
use Rattle.std.proofs.lemmas.Bool.{cases_lt, lt-ltb, le-ltb, le-leb, lt-leb}
use Rattle.std.proofs.lemmas.List.{length-map}
use Rattle.std.proofs.lemmas.List.Sums.{length-filter}
use Rattle.std.proofs.lemmas.List.Sorted.{sum_by-IsPermutation, length_permutation}
use Rattle.std.proofs.lemmas.List.Filters.{length-filter_both}
use Rattle.arrayvec.proofs.ArrayVecLemmas.{items-with_items}
use Rattle.grid_model.specs.Cuts.{left_part, right_part}
use Rattle.split_policy.specs.Rows.{numbers_in, count_below, AreAscending}

-- how many images pass a test
images-counted : {X : Type 0} (f : X → ℕ) (p : ℕ → Bool) (xs : List X) → length (filter (λ x. p (f x)) xs) ≡ length (filter p (map f xs))
images-counted f p [] = refl
images-counted f p (x ∷ xs) = by (p (f x)) (images-counted f p xs)
  where
    by : (t : Bool) → length (filter (λ x. p (f x)) xs) ≡ length (filter p (map f xs)) → length (cond t (x ∷ filter (λ x. p (f x)) xs) (filter (λ x. p (f x)) xs)) ≡ length (cond t (f x ∷ filter p (map f xs)) (filter p (map f xs)))
    by true e = ap suc e
    by false e = e

-- a list and its permutation pass a test as often
permuted-counted : (p : ℕ → Bool) (xs ys : List ℕ) → IsPermutation xs ys → length (filter p xs) ≡ length (filter p ys)
permuted-counted p xs ys h = length-filter p xs ∙ sym (sum_by-IsPermutation (λ x. cond (p x) 1 0) xs ys h) ∙ sym (length-filter p ys)

-- a number is at least another where it is not below it
at-least : (v n : ℕ) → nat_le v n ≡ not (nat_lt n v)
at-least v n = by (cases_lt n v)
  where
    by : (n < v) ⊎ (v ≤ n) → nat_le v n ≡ not (nat_lt n v)
    by (inl p) = lt-leb v n p ∙ ap not (sym (lt-ltb n v p))
    by (inr p) = le-leb v n p ∙ ap not (sym (le-ltb n v p))

module _ (keys : List (List ℕ)) (a : ℕ) (numbers : List ℕ) (h : AreAscending keys a numbers) where
  -- there are as many numbers as keys
  pub as-many : length numbers ≡ length keys
  as-many = length_permutation (numbers_in keys a) numbers h.same ∙ length-map keys (λ k. slice_index k a)

  -- the left part has the keys whose number lies below the boundary
  pub left-counted : (v : ℕ) → length (left_part keys a v) ≡ count_below numbers v
  left-counted v = images-counted (λ k. slice_index k a) (λ n. nat_lt n v) keys ∙ permuted-counted (λ n. nat_lt n v) (numbers_in keys a) numbers h.same

  -- the right part has the others
  pub right-counted : (v : ℕ) → length (right_part keys a v) ≡ length numbers - count_below numbers v
  right-counted v = omega (arith, as-many, left-counted v, length-filter_both (λ k. nat_lt (slice_index k a) v) (λ k. nat_le v (slice_index k a)) (λ k. at-least v (slice_index k a)) keys)

-- an index that parts the numbers below a number from the others counts those below it
pub parted : (ns : List ℕ) (v i : ℕ) → i ≤ length ns → ((k : ℕ) → k < i → slice_index ns k < v) → ((k : ℕ) → i ≤ k → k < length ns → v ≤ slice_index ns k) → count_below ns v ≡ i
parted [] v i p below above = omega (arith, p)
parted (n ∷ ns) v zero p below above =
    ap (λ t. length (cond t (n ∷ filter (λ n. nat_lt n v) ns) (filter (λ n. nat_lt n v) ns))) (le-ltb n v (above zero (omega arith) (omega arith)))
    ∙ parted ns v zero (omega arith) (λ k q. absurd (omega (arith, q))) (λ k q r. above (suc k) (omega arith) (omega (arith, r)))
parted (n ∷ ns) v (suc i) p below above =
    ap (λ t. length (cond t (n ∷ filter (λ n. nat_lt n v) ns) (filter (λ n. nat_lt n v) ns))) (lt-ltb n v (below zero (omega arith)))
    ∙ ap suc (parted ns v i (omega (arith, p)) (λ k q. below (suc k) (omega (arith, q))) (λ k q r. above (suc k) (omega (arith, q)) (omega (arith, r))))

-- numbers that are all written again are those that were written
pub refilled : (xs ws : List ℕ) → length ws ≡ length xs → refill (length xs) xs ws ≡ ws
refilled xs ws e = items-with_items (record { items = xs }) ws e
