-- Which numbers are among one or two, and among the numbers of entries.
use Rattle.std.proofs.Common.{◌≡◌, ◌≢◌, ◌<◌, ◌≤◌, ◌==◌, ◌||◌, ◌⊎◌, inl, inr, ℕ, Bool, true, false, min, max, List, map, is_some, refl, sym, ◌∙◌, arith, true≢false, nat_cmp, nat_lt, ltb-true, lt-ltb, eqb-true, eq-eqb}
use Rattle.std.proofs.lemmas.Bool.{or_left, or_right, cases_lt}
use Rattle.std.specs.Cmp.{both_ways}
use Rattle.std.specs.FinMap.Entries.{find}
use Rattle.grid_model.specs.Lists.{below, is_among}
use Rattle.grid_model.proofs.Counts.{among-range, range-among, among-found}
use Rattle.grid_model.proofs.Numbered.{found-among}

-- a number that is not among some is not the first of them
pub not-first : (n m : ℕ) (rest : Bool) → ((n == m) || rest) ≡ false → m ≢ n
not-first n m rest out same = true≢false (sym (or_left (n == m) rest (eq-eqb n m (sym same))) ∙ out)

-- nor the second
pub not-second : (n o m : ℕ) (rest : Bool) → ((n == m) || ((o == m) || rest)) ≡ false → m ≢ o
not-second n o m rest out same = true≢false (sym (or_right (n == m) ((o == m) || rest) (or_left (o == m) rest (eq-eqb o m (sym same)))) ∙ out)

-- a number among one is that one
pub one-of-one : (n i : ℕ) → ((n == i) || false) ≡ true → n ≡ i
one-of-one n i h = by (n == i) refl h
  where
    by : (s : Bool) → (n == i) ≡ s → (s || false) ≡ true → n ≡ i
    by true e g = eqb-true n i e
    by false e g = absurd (true≢false (sym g))

-- a number among two is the first or the second
pub one-of-two : (n m i : ℕ) → ((n == i) || ((m == i) || false)) ≡ true → (n ≡ i) ⊎ (m ≡ i)
one-of-two n m i h = by (n == i) (m == i) refl refl h
  where
    by : (s t : Bool) → (n == i) ≡ s → (m == i) ≡ t → (s || (t || false)) ≡ true → (n ≡ i) ⊎ (m ≡ i)
    by true t e f g = inl (eqb-true n i e)
    by false true e f g = inr (eqb-true m i f)
    by false false e f g = absurd (true≢false (sym g))

-- two numbers are the lower and the higher of them, in one order or the other
pub lower-higher : (n m : ℕ) → ((n ≡ min n m) × (m ≡ max n m)) ⊎ ((n ≡ max n m) × (m ≡ min n m))
lower-higher n m = by (cases_lt n m)
  where
    by : (n < m) ⊎ (m ≤ n) → ((n ≡ min n m) × (m ≡ max n m)) ⊎ ((n ≡ max n m) × (m ≡ min n m))
    by (inl p) = inl (omega (arith, p), omega (arith, p))
    by (inr p) = inr (omega (arith, p), omega (arith, p))

-- both are among the lower and the higher
pub both-among : (n m i : ℕ) → (n ≡ i) ⊎ (m ≡ i) → ((min n m == i) || ((max n m == i) || false)) ≡ true
both-among n m i h = by (lower-higher n m) h
  where
    low : min n m ≡ i → ((min n m == i) || ((max n m == i) || false)) ≡ true
    low e = or_left (min n m == i) ((max n m == i) || false) (eq-eqb (min n m) i e)

    high : max n m ≡ i → ((min n m == i) || ((max n m == i) || false)) ≡ true
    high e = or_right (min n m == i) ((max n m == i) || false) (or_left (max n m == i) false (eq-eqb (max n m) i e))

    by : ((n ≡ min n m) × (m ≡ max n m)) ⊎ ((n ≡ max n m) × (m ≡ min n m)) → (n ≡ i) ⊎ (m ≡ i) → ((min n m == i) || ((max n m == i) || false)) ≡ true
    by (inl p) (inl e) = low (sym p.0 ∙ e)
    by (inl p) (inr e) = high (sym p.1 ∙ e)
    by (inr p) (inl e) = high (sym p.0 ∙ e)
    by (inr p) (inr e) = low (sym p.1 ∙ e)

-- an entry is found by a number exactly where the number is one of the entries'
pub found-where : {X : Type 0} (es : List (ℕ × X)) (n : ℕ) → is_some (find nat_cmp n es) ≡ is_among (map (λ e. e.0) es) n
found-where es n = both_ways (is_some (find nat_cmp n es)) (is_among (map (λ e. e.0) es) n) (found-among es n) (among-found es n)

-- a number is below another one exactly where it is among those below
pub below-where : (n p : ℕ) → nat_lt p n ≡ is_among (below n) p
below-where n p = both_ways (nat_lt p n) (is_among (below n) p)
    (λ e. range-among 0 n p (omega arith) (omega (arith, ltb-true p n e)))
    (λ e. lt-ltb p n (omega (arith, among-range 0 n p e)))
