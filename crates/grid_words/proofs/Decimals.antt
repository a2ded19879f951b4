-- Words that are numbers in decimal.
use Rattle.std.proofs.Common.{◌≡◌, ◌<◌, ◌^◌, ◌++◌, ℕ, List, [], ◌∷◌, map, length, refl, ap, ap₂, arith}
use Rattle.std.specs.Prelude.{decimal}
use Rattle.std.specs.List.{All}
use Rattle.std.proofs.lemmas.Fmt.{decimal_injective}
use Rattle.std.proofs.lemmas.List.Elements.{All-head, All-tail}

-- a number of 32 bits
abbrev IsSmall : ℕ → Type 0
IsSmall n = n < 2 ^ 32

-- numbers of 32 bits
abbrev pub AreSmall : List ℕ → Type 0
AreSmall = All IsSmall

abbrev tail_of : {X : Type 0} → List X → List X
tail_of [] = []
tail_of (x ∷ xs) = xs

abbrev head_or : {X : Type 0} → X → List X → X
head_or d [] = d
head_or d (x ∷ xs) = x

-- a word behind the prints of numbers, where all words are prints of small numbers, is such a print
pub none_but_prints : (front : List ℕ) (word : List ℕ) (rest : List (List ℕ)) (numbers : List ℕ) → AreSmall numbers
    → ((n : ℕ) → n < 2 ^ 32 → word ≡ decimal n → ⊥) → map decimal front ++ (word ∷ rest) ≡ map decimal numbers → ⊥
none_but_prints [] word rest [] small none e = let long = ap length e in absurd (omega (arith, long))
none_but_prints [] word rest (n ∷ ns) small none e = none n (All-head IsSmall n ns small) (ap (head_or []) e)
none_but_prints (x ∷ xs) word rest [] small none e = let long = ap length e in absurd (omega (arith, long))
none_but_prints (x ∷ xs) word rest (n ∷ ns) small none e = none_but_prints xs word rest ns (All-tail IsSmall n ns small) none (ap tail_of e)

-- numbers with the same prints are the same
pub same_prints : (xs ys : List ℕ) → AreSmall xs → AreSmall ys → map decimal xs ≡ map decimal ys → xs ≡ ys
same_prints [] [] a b e = refl
same_prints [] (y ∷ ys) a b e = let long = ap length e in absurd (omega (arith, long))
same_prints (x ∷ xs) [] a b e = let long = ap length e in absurd (omega (arith, long))
same_prints (x ∷ xs) (y ∷ ys) a b e =
    let small_x : x < 2 ^ 32 = All-head IsSmall x xs a in
    let small_y : y < 2 ^ 32 = All-head IsSmall y ys b in
    ap₂ (λ z zs. z ∷ zs) (decimal_injective x y (omega (arith, small_x)) (omega (arith, small_y)) (ap (head_or []) e)) (same_prints xs ys (All-tail IsSmall x xs a) (All-tail IsSmall y ys b) (ap tail_of e))

-- there are as many prints as numbers
pub print_count : (numbers : List ℕ) → length (map decimal numbers) ≡ length numbers
print_count [] = refl
print_count (n ∷ ns) = let more = print_count ns in omega (arith, more)

-- prints and a word behind them are more than the prints
pub more_than_prints : (front : List ℕ) (word : List ℕ) (rest : List (List ℕ)) (numbers : List ℕ)
    → map decimal front ++ (word ∷ rest) ≡ map decimal numbers → length front < length numbers
more_than_prints [] word rest [] e = let long = ap length e in absurd (omega (arith, long))
more_than_prints [] word rest (n ∷ ns) e = omega arith
more_than_prints (x ∷ xs) word rest [] e = let long = ap length e in absurd (omega (arith, long))
more_than_prints (x ∷ xs) word rest (n ∷ ns) e = let more = more_than_prints xs word rest ns (ap tail_of e) in omega (arith, more)
