-- Which numbers have the present round.
use Rattle.std.proofs.Common.{◌≡◌, ◌<◌, ◌≤◌, ◌+◌, ◌==◌, ℕ, zero, suc, Bool, true, false, List, [], ◌∷◌, map, length, replicate, slice_set, All, refl, sym, ap, ◌∙◌, arith, eq-eqb}
use Rattle.std.proofs.lemmas.Bool.{ne_eqb}
use Rattle.std.proofs.lemmas.List.{length-map, length-replicate, get_or-replicate}
use Rattle.std.proofs.lemmas.List.Elements.{All-head, All-tail}

-- the numbers that have a round
abbrev pub of_round : ℕ → List ℕ → List Bool
of_round present rounds = map (λ round. round == present) rounds

-- where each round is an earlier one, none has it
pub none-of-round : (present : ℕ) (rounds : List ℕ) → All (λ r. r < present) rounds → of_round present rounds ≡ replicate (length rounds) false
none-of-round present [] h = refl
none-of-round present (r ∷ rounds) h =
    let first : (r == present) ≡ false = ne_eqb r present (λ e. let l = All-head (λ x. x < present) r rounds h in omega (arith, l, e)) in
    let rest = none-of-round present rounds (All-tail (λ x. x < present) r rounds h) in
    λ i. first i ∷ rest i

-- a number that gets the present round has it, and the others stay
pub round-set : (present : ℕ) (rounds : List ℕ) (n : ℕ) → of_round present (slice_set rounds n present) ≡ slice_set (of_round present rounds) n true
round-set present [] n = refl
round-set present (r ∷ rounds) zero = ap (λ b. b ∷ of_round present rounds) (eq-eqb present present refl)
round-set present (r ∷ rounds) (suc n) = ap (λ bs. (r == present) ∷ bs) (round-set present rounds n)

all-zeros : (present n : ℕ) → All (λ r. r < present + 1) (replicate n 0)
all-zeros present n = λ i d l. let e = get_or-replicate {A = ℕ} n i 0 d (omega (arith, l, length-replicate {A = ℕ} n 0)) in omega (arith, e)

-- where all rounds are the first, none has the next
pub none-filled : (rounds : List ℕ) (present m n : ℕ) → rounds ≡ replicate m 0 → m ≡ n → of_round (present + 1) rounds ≡ replicate n false
none-filled rounds present m n e is =
    ap (of_round (present + 1)) e ∙ none-of-round (present + 1) (replicate m 0) (all-zeros present m) ∙ ap (λ k. replicate k false) (length-replicate {A = ℕ} m 0 ∙ is)

-- where no round is later than the present one, none is the next
pub none-next : (rounds : List ℕ) (present n : ℕ) → All (λ r. r ≤ present) rounds → length rounds ≡ n → of_round (present + 1) rounds ≡ replicate n false
none-next rounds present n h e = none-of-round (present + 1) rounds (λ i d l. let b = h i d l in omega (arith, b)) ∙ ap (λ k. replicate k false) e

-- there are as many marks as rounds
pub as-many : (present : ℕ) (rounds : List ℕ) (marks : List Bool) → of_round present rounds ≡ marks → length rounds ≡ length marks
as-many present rounds marks e = sym (length-map rounds (λ round. round == present)) ∙ ap length e
