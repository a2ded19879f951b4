-- How many numbers below another one pass a test, while one of them changes.
use Rattle.std.proofs.Common.{◌≡◌, ◌⊎◌, inl, inr, ℕ, zero, suc, ◌+◌, ◌<◌, ◌≤◌, Bool, true, false, cond, refl, sym, ◌∙◌, ap, filter, length, arith}
use Rattle.std.specs.Prelude.{◌≢◌, nat_lt}
use Rattle.std.specs.Cmp.{both_ways}
use Rattle.std.proofs.lemmas.Bool.{cases_eq, lt-ltb, ltb-true}
use Rattle.grid_model.specs.Lists.{below, is_among}
use Rattle.grid_model.proofs.Counts.{among-filter, among-range, range-among}
use Rattle.grid_model.proofs.Members.{contains-filter, contains-range, among-from-contains}
use Rattle.directory_changes.proofs.Counted.{count-more}

-- tests that agree below a number pass as many there
pub count_alike : (p q : ℕ → Bool) (m : ℕ) → ((n : ℕ) → n < m → p n ≡ q n) → length (filter p (below m)) ≡ length (filter q (below m))
count_alike p q zero same = refl
count_alike p q (suc m) same =
    let rest : length (filter p (below m)) ≡ length (filter q (below m)) = count_alike p q m (λ n low. same n (omega (arith, low))) in
    let one : ◌≡◌ {A = ℕ} (cond (p m) 1 0) (cond (q m) 1 0) = ap (λ (t : Bool). cond {A = ℕ} t 1 0) (same m (omega arith)) in
    let next : suc m ≡ m + 1 = omega arith in
    ap (λ (k : ℕ). length (filter p (below k))) next ∙ count-more p m ∙ (λ i. rest i + one i) ∙ sym (count-more q m) ∙ ap (λ (k : ℕ). length (filter q (below k))) (sym next)

-- where one number more passes, one more passes
pub count_added : (p q : ℕ → Bool) (r m : ℕ) → r < m → p r ≡ false → q r ≡ true → ((n : ℕ) → n ≢ r → q n ≡ p n) → length (filter q (below m)) ≡ length (filter p (below m)) + 1
count_added p q r zero low was is same = absurd (omega (arith, low))
count_added p q r (suc m) low was is same = by (cases_eq r m) (λ less. count_added p q r m less was is same)
  where
    next : suc m ≡ m + 1
    next = omega arith

    more : (f : ℕ → Bool) → length (filter f (below (suc m))) ≡ length (filter f (below m)) + cond (f m) 1 0
    more f = ap (λ (k : ℕ). length (filter f (below k))) next ∙ count-more f m

    by : (r ≡ m) ⊎ (r ≢ m) → (r < m → length (filter q (below m)) ≡ length (filter p (below m)) + 1) → length (filter q (below (suc m))) ≡ length (filter p (below (suc m))) + 1
    by (inl e) before =
        let rest : length (filter q (below m)) ≡ length (filter p (below m)) = count_alike q p m (λ n less. same n (λ is. omega (arith, less, is, e))) in
        let one : ◌≡◌ {A = ℕ} (cond (q m) 1 0) 1 = ap (λ (t : Bool). cond {A = ℕ} t 1 0) (ap q (sym e) ∙ is) in
        let none : ◌≡◌ {A = ℕ} (cond (p m) 1 0) 0 = ap (λ (t : Bool). cond {A = ℕ} t 1 0) (ap p (sym e) ∙ was) in
        omega (arith, more q, more p, rest, one, none)
    by (inr apart) before =
        let rest : length (filter q (below m)) ≡ length (filter p (below m)) + 1 = before (omega (arith, low, apart)) in
        let one : ◌≡◌ {A = ℕ} (cond (q m) 1 0) (cond (p m) 1 0) = ap (λ (t : Bool). cond {A = ℕ} t 1 0) (same m (λ e. apart (sym e))) in
        omega (arith, more q, more p, rest, one)

-- where all pass, they are as many as the number
pub count_all : (p : ℕ → Bool) (m : ℕ) → ((n : ℕ) → n < m → p n ≡ true) → length (filter p (below m)) ≡ m
count_all p zero all = refl
count_all p (suc m) all =
    let next : suc m ≡ m + 1 = omega arith in
    let rest : length (filter p (below m)) ≡ m = count_all p m (λ n low. all n (omega (arith, low))) in
    let one : ◌≡◌ {A = ℕ} (cond (p m) 1 0) 1 = ap (λ (t : Bool). cond {A = ℕ} t 1 0) (all m (omega arith)) in
    let sum : length (filter p (below (suc m))) ≡ length (filter p (below m)) + cond (p m) 1 0 = ap (λ (k : ℕ). length (filter p (below k))) next ∙ count-more p m in
    omega (arith, rest, one, sum)

-- where one passes, some do
pub count_some : (p : ℕ → Bool) (r m : ℕ) → r < m → p r ≡ true → 1 ≤ length (filter p (below m))
count_some p r zero low is = absurd (omega (arith, low))
count_some p r (suc m) low is = by (cases_eq r m) (λ less. count_some p r m less is)
  where
    next : suc m ≡ m + 1
    next = omega arith

    more : length (filter p (below (suc m))) ≡ length (filter p (below m)) + cond (p m) 1 0
    more = ap (λ (k : ℕ). length (filter p (below k))) next ∙ count-more p m

    by : (r ≡ m) ⊎ (r ≢ m) → (r < m → 1 ≤ length (filter p (below m))) → 1 ≤ length (filter p (below (suc m)))
    by (inl e) before =
        let one : ◌≡◌ {A = ℕ} (cond (p m) 1 0) 1 = ap (λ (t : Bool). cond {A = ℕ} t 1 0) (ap p (sym e) ∙ is) in
        omega (arith, more, one)
    by (inr apart) before = omega (arith, more, before (omega (arith, low, apart)))

-- a number is among those that pass below another one exactly where it passes, if none passes beyond
pub among_passing : (p : ℕ → Bool) (m n : ℕ) → (p n ≡ true → n < m) → is_among (filter p (below m)) n ≡ p n
among_passing p m n low = both_ways (is_among (filter p (below m)) n) (p n) (λ e. (among-filter p (below m) n e).1)
    (λ e. among-from-contains (filter p (below m)) n (contains-filter p (below m) n (contains-range 0 m n (omega arith) (omega (arith, low e))) e))

-- and among all below it exactly where it is lower
pub among_below : (m n : ℕ) → is_among (below m) n ≡ nat_lt n m
among_below m n = both_ways (is_among (below m) n) (nat_lt n m) (λ e. let w = among-range 0 m n e in lt-ltb n m (omega (arith, w.1))) (λ e. let low : n < m = ltb-true n m e in range-among 0 m n (omega arith) (omega (arith, low)))

-- below a number that passes fewer pass than below a higher one
pub count_bound : (p : ℕ → Bool) (m n : ℕ) → m < n → p m ≡ true → length (filter p (below m)) < length (filter p (below n))
count_bound p m zero low is = absurd (omega (arith, low))
count_bound p m (suc n) low is = by (cases_eq m n) (λ less. count_bound p m n less is)
  where
    next : suc n ≡ n + 1
    next = omega arith

    more : length (filter p (below (suc n))) ≡ length (filter p (below n)) + cond (p n) 1 0
    more = ap (λ (k : ℕ). length (filter p (below k))) next ∙ count-more p n

    by : (m ≡ n) ⊎ (m ≢ n) → (m < n → length (filter p (below m)) < length (filter p (below n))) → length (filter p (below m)) < length (filter p (below (suc n)))
    by (inl e) before =
        let one : ◌≡◌ {A = ℕ} (cond (p n) 1 0) 1 = ap (λ (t : Bool). cond {A = ℕ} t 1 0) (ap p (sym e) ∙ is) in
        let same : length (filter p (below m)) ≡ length (filter p (below n)) = ap (λ (k : ℕ). length (filter p (below k))) e in
        omega (arith, more, one, same)
    by (inr apart) before = omega (arith, more, before (omega (arith, low, apart)))
