-- Words on lists that the other definitions use.
use Rattle.std.specs.Prelude.{ℕ, ◌≤◌, length, filter, ◌+◌, ◌-◌, ◌*◌, ◌==◌, List, [], ◌∷◌, map, flat_map, Bool, cond, Option, Some, None}
use Rattle.std.specs.Ordering.{is_lt, nat_cmp}
use Rattle.std.specs.Cmp.Lexicographic.{slice_cmp}
use Rattle.std.specs.List.{range_with_len, reduce, list_any}

-- the numbers below n
abbrev pub below : ℕ → List ℕ
below n = range_with_len 0 n

-- the numbers from one up to another, both included
abbrev pub from_to : ℕ → ℕ → List ℕ
from_to a b = range_with_len a (b + 1 - a)

-- a number is one of these
abbrev pub is_among : List ℕ → ℕ → Bool
is_among ns n = list_any (λ m. m == n) ns

-- no number stands twice in a list: each stands in it at most once
abbrev pub AreDistinct : List ℕ → Type 0
AreDistinct ns = (n : ℕ) → length (filter (λ m. m == n) ns) ≤ 1

-- the product of the numbers
abbrev pub product : List ℕ → ℕ
product [] = 1
product (n ∷ ns) = n * product ns

-- the lists that have one item of each of these lists, in the order of the first item, then of the second, and so on
abbrev pub choices : List (List ℕ) → List (List ℕ)
choices [] = [] ∷ []
choices (xs ∷ xss) = flat_map (λ x. map (λ rest. x ∷ rest) (choices xss)) xs

-- of two ranks the first is below the second, by their numbers from the first on
abbrev pub ranks_below : List ℕ → List ℕ → Bool
ranks_below a b = is_lt (slice_cmp nat_cmp a b)

-- the one of lower rank; of equal rank the first
abbrev pub lower : {X : Type 0} → (X → List ℕ) → X → X → X
lower rank x y = cond (ranks_below (rank y) (rank x)) y x

-- the element of least rank; of equal rank the first
abbrev pub least : {X : Type 0} → (X → List ℕ) → List X → Option X
least rank xs = reduce (lower rank) xs

-- the first, or the second where there is none
abbrev pub or_else : {X : Type 0} → Option X → Option X → Option X
or_else None o = o
or_else (Some x) o = Some x

-- the first that there is
abbrev pub first_some : {X : Type 0} → List (Option X) → Option X
first_some [] = None
first_some (o ∷ os) = or_else o (first_some os)
