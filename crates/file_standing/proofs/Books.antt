-- What a step makes of the used slots of a half, in the books and in what is kept.
use Rattle.std.proofs.Common.{◌≡◌, ◌≢◌, ◌<◌, ◌+◌, ◌==◌, ℕ, zero, suc, Bool, true, false, cond, List, map, length, refl, arith}
use Rattle.std.proofs.lemmas.List.{length-map}
use Rattle.file_images.specs.Kept.{PlacedBatch}
use Rattle.file_images.specs.Steps.{first_with, second_with, first_by, second_by, other_half, none_used, loosened}
use Rattle.file_images.proofs.Halves.{length_added}
use Rattle.file_books.specs.Books.{Books}
use Rattle.file_books.specs.Effects.{used_of, idle_half, with_used}

-- the books with so many used slots of a half, as one record
abbrev pub books_used : Books → ℕ → ℕ → Books
books_used b h n = record b { first_used = first_by h (λ _. n) b.first_used; second_used = second_by h (λ _. n) b.second_used }

pub used-form : (b : Books) (h n : ℕ) → with_used b h n ≡ books_used b h n
used-form b zero n = refl
used-form b (suc h) n = refl

pub used-here : (b : Books) (h n : ℕ) → used_of (books_used b h n) h ≡ n
used-here b zero n = refl
used-here b (suc h) n = refl

pub used-other : (b : Books) (h j n : ℕ) → h < 2 → j < 2 → j ≢ h → used_of (books_used b h n) j ≡ used_of b j
used-other b zero zero n two too apart = absurd (apart refl)
used-other b zero (suc j) n two too apart = refl
used-other b (suc h) zero n two too apart = refl
used-other b (suc h) (suc j) n two too apart = absurd (apart (omega (arith, two, too)))

-- books with the same used slots have as many of each half
pub used-alike : (b c : Books) (h : ℕ) → b.first_used ≡ c.first_used → b.second_used ≡ c.second_used → used_of b h ≡ used_of c h
used-alike b c zero one two = one
used-alike b c (suc h) one two = two

-- the half that is not current
abbrev idle : ℕ → ℕ
idle h = cond (h == 0) 1 0

idle-two : (h : ℕ) → idle h < 2
idle-two h = by (h == 0)
  where
    by : (b : Bool) → cond b 1 0 < 2
    by true = omega arith
    by false = omega arith

idle-is : (h : ℕ) → h < 2 → (idle h ≡ other_half h) × (idle h ≢ h) × (idle (idle h) ≡ h)
idle-is zero two = (refl, (λ e. omega (arith, e)), refl)
idle-is (suc zero) two = (refl, (λ e. omega (arith, e)), refl)
idle-is (suc (suc h)) two = absurd (omega (arith, two))

pub idle-half-two : (b : Books) → idle_half b < 2
idle-half-two b = idle-two b.half

pub idle-half-other : (b : Books) → b.half < 2 → idle_half b ≡ other_half b.half
idle-half-other b two = (idle-is b.half two).0

pub idle-half-apart : (b : Books) → b.half < 2 → idle_half b ≢ b.half
idle-half-apart b two = (idle-is b.half two).1

pub idle-half-twice : (b : Books) → b.half < 2 → idle_half (record b { half = idle_half b }) ≡ b.half
idle-half-twice b two = (idle-is b.half two).2

-- one more batch on a half is one more used slot of it
pub longer-first : {K : ℕ} (b : Books) (half : ℕ) (p : PlacedBatch K) (xs : List (PlacedBatch K)) → length xs ≡ b.first_used → length (first_with half p xs) ≡ first_by half (λ _. used_of b half + 1) b.first_used
longer-first b zero p xs e = omega (arith, length_added xs p, e)
longer-first b (suc half) p xs e = e

pub longer-second : {K : ℕ} (b : Books) (half : ℕ) (p : PlacedBatch K) (xs : List (PlacedBatch K)) → length xs ≡ b.second_used → length (second_with half p xs) ≡ second_by half (λ _. used_of b half + 1) b.second_used
longer-second b zero p xs e = e
longer-second b (suc half) p xs e = omega (arith, length_added xs p, e)

-- loose gates leave as many used slots, and a clear half has none
pub loose-first : {K : ℕ} (h : ℕ) (xs : List (PlacedBatch K)) → length (first_by h (map loosened) xs) ≡ length xs
loose-first zero xs = length-map xs loosened
loose-first (suc h) xs = refl

pub loose-second : {K : ℕ} (h : ℕ) (xs : List (PlacedBatch K)) → length (second_by h (map loosened) xs) ≡ length xs
loose-second zero xs = refl
loose-second (suc h) xs = length-map xs loosened

pub clear-first : {K : ℕ} (h n : ℕ) (xs : List (PlacedBatch K)) → length xs ≡ n → length (first_by h none_used xs) ≡ first_by h (λ _. 0) n
clear-first zero n xs e = refl
clear-first (suc h) n xs e = e

pub clear-second : {K : ℕ} (h n : ℕ) (xs : List (PlacedBatch K)) → length xs ≡ n → length (second_by h none_used xs) ≡ second_by h (λ _. 0) n
clear-second zero n xs e = e
clear-second (suc h) n xs e = refl
