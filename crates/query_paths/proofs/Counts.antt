-- Lists of which each test passes as many.
use Rattle.std.proofs.Common.{◌≡◌, Bool, true, List, [], ◌∷◌, length, count_by, refl, sym, ◌∙◌, arith}
use Rattle.std.proofs.lemmas.List.Sums.{sum_by-cons}

-- the test that all pass counts all
count-length : {X : Type 0} (xs : List X) → count_by (λ x. true) xs ≡ length xs
count-length [] = refl
count-length (x ∷ xs) = omega (arith, sum_by-cons (λ y. 1) x xs, count-length xs)

-- such lists are of one length
pub count-all : {X : Type 0} (xs ys : List X) → ((test : X → Bool) → count_by test xs ≡ count_by test ys) → length xs ≡ length ys
count-all xs ys h = sym (count-length xs) ∙ h (λ x. true) ∙ count-length ys
