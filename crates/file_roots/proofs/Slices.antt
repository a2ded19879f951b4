-- Slices that end where a list does.
use Rattle.std.proofs.Common.{◌≡◌, ◌≢◌, zero, suc, ◌≤◌, inl, inr, ◌+◌, ◌-◌, ℕ, List, length, take, drop, cond, refl, sym, ap, ◌∙◌, arith}
use Rattle.std.specs.Prelude.{min}
use Rattle.grid_model.specs.Images.{half_of_scale}
use Rattle.std.proofs.Math.ListN.{drop_of_length-le}
use Rattle.std.proofs.lemmas.Bool.{cases_lt, ne_eqb}
use Rattle.std.proofs.lemmas.List.{take_all, length-take, length-drop}

-- up to a place or the end
pub take_until : (xs : List ℕ) (n m : ℕ) → m ≡ min (length xs) n → take m xs ≡ take n xs
take_until xs n m is = elim (cases_lt n (length xs)) [
  | inl short ↦ ap (λ (k : ℕ). take k xs) (omega (arith, is, short))
  | inr long ↦ ap (λ (k : ℕ). take k xs) (omega (arith, is, long)) ∙ take_all (length xs) xs (omega arith) ∙ sym (take_all n xs long)
]

-- from a place or the end
pub drop_until : (xs : List ℕ) (n m : ℕ) → m ≡ min (length xs) n → drop m xs ≡ drop n xs
drop_until xs n m is = elim (cases_lt n (length xs)) [
  | inl short ↦ ap (λ (k : ℕ). drop k xs) (omega (arith, is, short))
  | inr long ↦ ap (λ (k : ℕ). drop k xs) (omega (arith, is, long)) ∙ drop_of_length-le xs {i = length xs} (omega arith) ∙ sym (drop_of_length-le xs {i = n} long)
]

-- from a place or the end as many as there are
pub part_until : (xs : List ℕ) (at n from to : ℕ) → from ≡ min at (length xs) → to ≡ min (from + n) (length xs) → take (to - from) (drop from xs) ≡ take n (drop at xs)
part_until xs at n from to f t =
    take_until (drop from xs) n (to - from) (omega (arith, f, t, length-drop from xs)) ∙ ap (take n) (drop_until xs at from (omega (arith, f)))

-- the first half of a scale
pub first_half : (half : ℕ) (xs : List ℕ) → half ≡ 0 → half_of_scale half xs ≡ take 500 xs
first_half zero xs is = refl
first_half (suc half) xs is = absurd (omega (arith, is))

-- the second half of a scale
pub second_half : (half : ℕ) (xs : List ℕ) → half ≢ 0 → half_of_scale half xs ≡ drop 500 xs
second_half zero xs other = absurd (other refl)
second_half (suc half) xs other = ap (λ b. cond b (take 500 xs) (drop 500 xs)) (ne_eqb (suc half) 0 other)

-- a half of a scale has at most 500 boundaries
pub half_fits : (half : ℕ) (xs : List ℕ) → length xs ≤ 1000 → length (half_of_scale half xs) ≤ 500
half_fits zero xs le = omega (arith, length-take 500 xs)
half_fits (suc half) xs le = omega (arith, le, length-drop 500 xs, ap length (second_half (suc half) xs (λ e. absurd (omega (arith, e)))))
