-- How many of the first bucket numbers are had by a bucket, and what is held under them.
use Rattle.std.proofs.Common.{◌≡◌, ◌≢◌, ◌<◌, ◌≤◌, ◌+◌, ◌==◌, ◌++◌, ◌⊎◌, inl, inr, ℕ, List, cond, not, length, take, drop, get_or, slice_index, sym, ap, subst, ◌∙◌, arith, length-append}
use Rattle.std.proofs.lemmas.Bool.{ne_eqb}
use Rattle.std.proofs.lemmas.List.{take-append-drop, get_or-set_same, get_or-set_other}
use Rattle.std.proofs.lemmas.List.Elements.{filter-append}
use Rattle.std.proofs.lemmas.List.Filters.{length-filter_more}
use Rattle.std.specs.Prelude.{slice_set}
use Rattle.grid_model.specs.Lawful.{nowhere, pages_named}

-- one more number that a bucket has
pub one_more : (table : List ℕ) (n : ℕ) → n < length table → slice_index table n ≢ nowhere → length (pages_named (take (n + 1) table)) ≡ length (pages_named (take n table)) + 1
one_more table n lt named =
    length-filter_more (λ p. not (p == nowhere)) table n 0 lt ∙ ap (λ b. length (pages_named (take n table)) + cond (not b) 1 0) (ne_eqb (slice_index table n) nowhere named)

-- and one more number leaves no fewer
pub no_fewer : (table : List ℕ) (n : ℕ) → n < length table → length (pages_named (take n table)) ≤ length (pages_named (take (n + 1) table))
no_fewer table n lt = omega (arith, length-filter_more (λ p. not (p == nowhere)) table n 0 lt)

-- the first are no more than all
pub no_more_than_all : (table : List ℕ) (n : ℕ) → length (pages_named (take n table)) ≤ length (pages_named table)
no_more_than_all table n =
    let first = pages_named (take n table) in
    let rest = pages_named (drop n table) in
    let all : pages_named table ≡ first ++ rest = ap pages_named (sym (take-append-drop n table)) ∙ filter-append (λ p. not (p == nowhere)) (take n table) (drop n table) in
    omega (arith, ap (λ (l : List ℕ). length l) all, length-append first rest)

-- what is so of each number below the next
pub below_next : (P : ℕ → Type 0) (n : ℕ) → ((m : ℕ) → m < n → P m) → P n → (m : ℕ) → m < n + 1 → P m
below_next P n rest here m lt = by (split m n lt)
  where
    split : (m n : ℕ) → m < n + 1 → (m < n) ⊎ (n ≡ m)
    split m n lt = grind (arith, lt)

    by : (m < n) ⊎ (n ≡ m) → P m
    by (inl less) = rest m less
    by (inr same) = subst P same here

-- one more is put under its number, and the others stay
pub put_under : {X : Type 0} (P : ℕ → X → Type 0) (xs : List X) (n : ℕ) (x : X) → n < length xs → ((m : ℕ) → m < n → (d : X) → P m (get_or xs m d)) → P n x → (m : ℕ) → m < n + 1 → (d : X) → P m (get_or (slice_set xs n x) m d)
put_under P xs n x inside rest here = below_next (λ m. (d : _) → P m (get_or (slice_set xs n x) m d)) n
    (λ m lt d. subst (P m) (sym (get_or-set_other xs n m x d (λ same. absurd (omega (arith, lt, same))))) (rest m lt d))
    (λ d. subst (P n) (sym (get_or-set_same xs n x d inside)) here)
