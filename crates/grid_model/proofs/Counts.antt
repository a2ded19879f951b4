-- How often numbers stand in lists, and how many of a list are among others.
use Rattle.std.proofs.Common.{◌≡◌, ◌<◌, ◌≤◌, ◌+◌, ◌==◌, ◌||◌, ℕ, zero, suc, Bool, true, false, cond, T, List, [], ◌∷◌, map, filter, length, Some, IsSome, refl, sym, ap, ◌∙◌, arith, true≢false, eqb-true, eq-eqb, subst, nat_cmp, is_eq, is_lt}
use Rattle.std.specs.Ordering.{eq_by_cmp}
use Rattle.std.proofs.lemmas.List.FromFn.{length-range_with_len}
use Rattle.std.specs.List.{range_with_len}
use Rattle.std.specs.Cmp.{nat_cmp_total, tied_itself}
use Rattle.std.specs.FinMap.Entries.{find, is_sorted, below_all}
use Rattle.grid_model.specs.Lists.{below, is_among, AreDistinct}
use Rattle.grid_model.proofs.Truths.{part-one, part-two, or-left, or-right}

-- how often a number stands in a list
abbrev pub count : ℕ → List ℕ → ℕ
count n ns = length (filter (λ m. m == n) ns)

pub swap-eq : (a b : ℕ) → (a == b) ≡ (b == a)
swap-eq a b = grind arith

-- an item more or not
more : (t : Bool) (n : ℕ) (ns : List ℕ) → length (cond t (n ∷ ns) ns) ≡ cond t 1 0 + length ns
more true n ns = omega arith
more false n ns = omega arith

hit : (t s u : Bool) (a b c : ℕ) → t ≡ s → a ≤ b + c → cond (t || u) 1 0 + a ≤ (cond s 1 0 + b) + (cond u 1 0 + c)
hit true true true a b c e h = omega (arith, h)
hit true true false a b c e h = omega (arith, h)
hit true false u a b c e h = absurd (true≢false e)
hit false true u a b c e h = absurd (true≢false (sym e))
hit false false true a b c e h = omega (arith, h)
hit false false false a b c e h = omega (arith, h)

-- those among one number more are at most those that are this number and those among the rest
pub hits-more : (d : ℕ) (ds rs : List ℕ) → length (filter (is_among (d ∷ ds)) rs) ≤ count d rs + length (filter (is_among ds) rs)
hits-more d ds [] = omega arith
hits-more d ds (r ∷ rs) = omega (
  arith,
  more (is_among (d ∷ ds) r) r (filter (is_among (d ∷ ds)) rs),
  more (r == d) r (filter (λ m. m == d) rs),
  more (is_among ds r) r (filter (is_among ds) rs),
  hit (d == r) (r == d) (is_among ds r) (length (filter (is_among (d ∷ ds)) rs)) (count d rs) (length (filter (is_among ds) rs)) (swap-eq d r) (hits-more d ds rs),
)

none-among : (rs : List ℕ) → length (filter (is_among []) rs) ≡ 0
none-among [] = refl
none-among (r ∷ rs) = none-among rs

-- of numbers that stand once, at most as many are among others as there are others
pub few-among : (ds rs : List ℕ) → AreDistinct rs → length (filter (is_among ds) rs) ≤ length ds
few-among [] rs h = omega (arith, none-among rs)
few-among (d ∷ ds) rs h = omega (arith, hits-more d ds rs, few-among ds rs h, h d)

-- a number that does not stand in a list is counted 0 times
pub count-absent : (n : ℕ) (ns : List ℕ) → is_among ns n ≡ false → count n ns ≡ 0
count-absent n [] h = refl
count-absent n (m ∷ ns) h = by (m == n) h (count-absent n ns)
  where
    by : (t : Bool) → (t || is_among ns n) ≡ false → (is_among ns n ≡ false → count n ns ≡ 0) → length (cond t (m ∷ filter (λ i. i == n) ns) (filter (λ i. i == n) ns)) ≡ 0
    by true e rest = absurd (true≢false e)
    by false e rest = rest e

alike : (t : Bool) (n : ℕ) (ns ms : List ℕ) → length ns ≤ length ms → length (cond t (n ∷ ns) ns) ≤ length (cond t (n ∷ ms) ms)
alike true n ns ms h = omega (arith, h)
alike false n ns ms h = omega (arith, h)

grows : (t : Bool) (n : ℕ) (ns : List ℕ) → length ns ≤ length (cond t (n ∷ ns) ns)
grows true n ns = omega arith
grows false n ns = omega arith

-- a number stands in a part of a list at most as often
pub count-filter : (p : ℕ → Bool) (n : ℕ) (ns : List ℕ) → count n (filter p ns) ≤ count n ns
count-filter p n [] = omega arith
count-filter p n (m ∷ ns) = by (p m) (count-filter p n ns)
  where
    by : (s : Bool) → count n (filter p ns) ≤ count n ns → count n (cond s (m ∷ filter p ns) (filter p ns)) ≤ count n (m ∷ ns)
    by true h = alike (m == n) m (filter (λ i. i == n) (filter p ns)) (filter (λ i. i == n) ns) h
    by false h = omega (arith, h, grows (m == n) m (filter (λ i. i == n) ns))

-- a part of numbers that stand once stands once
pub filter-distinct : (p : ℕ → Bool) (ns : List ℕ) → AreDistinct ns → AreDistinct (filter p ns)
filter-distinct p ns h n = omega (arith, count-filter p n ns, h n)

-- what is among a part of a list is among the list, and passes
pub among-filter : (p : ℕ → Bool) (ns : List ℕ) (n : ℕ) → is_among (filter p ns) n ≡ true → (is_among ns n ≡ true) × (p n ≡ true)
among-filter p [] n h = absurd (true≢false (sym h))
among-filter p (m ∷ ns) n h = by (p m) refl h (among-filter p ns n)
  where
    here : (t : Bool) → (m == n) ≡ t → p m ≡ true → (t || is_among (filter p ns) n) ≡ true → (is_among (filter p ns) n ≡ true → (is_among ns n ≡ true) × (p n ≡ true)) → ((t || is_among ns n) ≡ true) × (p n ≡ true)
    here true e q g rest = (refl, ap p (sym (eqb-true m n e)) ∙ q)
    here false e q g rest = rest g

    by : (t : Bool) → p m ≡ t → is_among (cond t (m ∷ filter p ns) (filter p ns)) n ≡ true → (is_among (filter p ns) n ≡ true → (is_among ns n ≡ true) × (p n ≡ true)) → (is_among (m ∷ ns) n ≡ true) × (p n ≡ true)
    by true e g rest = here (m == n) refl e g rest
    by false e g rest = (or-right (m == n) (is_among ns n) (rest g).0, (rest g).1)

-- the numbers of a range
pub among-range : (a k n : ℕ) → is_among (range_with_len a k) n ≡ true → (a ≤ n) × (n < a + k)
among-range a zero n h = absurd (true≢false (sym h))
among-range a (suc k) n h = by (a == n) refl h (among-range (a + 1) k n)
  where
    by : (t : Bool) → (a == n) ≡ t → (t || is_among (range_with_len (a + 1) k) n) ≡ true → (is_among (range_with_len (a + 1) k) n ≡ true → (a + 1 ≤ n) × (n < a + 1 + k)) → (a ≤ n) × (n < a + suc k)
    by true e g rest = (omega (arith, eqb-true a n e), omega (arith, eqb-true a n e))
    by false e g rest = (omega (arith, (rest g).0), omega (arith, (rest g).1))

pub range-among : (a k n : ℕ) → a ≤ n → n < a + k → is_among (range_with_len a k) n ≡ true
range-among a zero n l h = absurd (omega (arith, l, h))
range-among a (suc k) n l h = by (a == n) refl (range-among (a + 1) k n)
  where
    apart : (a == n) ≡ false → a + 1 ≤ n
    apart e = grind (arith, l, e)

    by : (t : Bool) → (a == n) ≡ t → (a + 1 ≤ n → n < a + 1 + k → is_among (range_with_len (a + 1) k) n ≡ true) → (t || is_among (range_with_len (a + 1) k) n) ≡ true
    by true e rest = refl
    by false e rest = rest (apart e) (omega (arith, h))

all-pass : (p : ℕ → Bool) (ns : List ℕ) → ((n : ℕ) → is_among ns n ≡ true → p n ≡ true) → length ns ≤ length (filter p ns)
all-pass p [] h = omega arith
all-pass p (m ∷ ns) h =
    subst (λ t. length (m ∷ ns) ≤ length (cond t (m ∷ filter p ns) (filter p ns))) (sym (h m (or-left (m == m) (is_among ns m) (eq-eqb m m refl))))
    (omega (arith, all-pass p ns (λ n g. h n (or-right (m == n) (is_among ns n) g))))

-- numbers below m that stand once are at most m
pub few-below : (m : ℕ) (ns : List ℕ) → AreDistinct ns → ((n : ℕ) → is_among ns n ≡ true → n < m) → length ns ≤ m
few-below m ns d h = omega (arith, all-pass (is_among (below m)) ns (λ n g. range-among 0 m n (omega arith) (omega (arith, h n g))), few-among (below m) ns d, length-range_with_len 0 m)

-- a part of a list is no longer than the list
pub length-part : (p : ℕ → Bool) (ns : List ℕ) → length (filter p ns) ≤ length ns
length-part p [] = omega arith
length-part p (m ∷ ns) = omega (arith, more (p m) m (filter p ns), one-at-most (p m), length-part p ns)
  where
    one-at-most : (t : Bool) → cond t 1 0 ≤ 1
    one-at-most true = omega arith
    one-at-most false = omega arith

range-apart : (a k n : ℕ) → n < a → count n (range_with_len a k) ≡ 0
range-apart a zero n h = refl
range-apart a (suc k) n h = by (a == n) refl (range-apart (a + 1) k n (omega (arith, h)))
  where
    by : (t : Bool) → (a == n) ≡ t → count n (range_with_len (a + 1) k) ≡ 0 → length (cond t (a ∷ filter (λ i. i == n) (range_with_len (a + 1) k)) (filter (λ i. i == n) (range_with_len (a + 1) k))) ≡ 0
    by true e g = absurd (omega (arith, h, eqb-true a n e))
    by false e g = g

-- each number stands once in a range
pub range-distinct : (a k : ℕ) → AreDistinct (range_with_len a k)
range-distinct a zero n = omega arith
range-distinct a (suc k) n = by (a == n) refl (range-distinct (a + 1) k n)
  where
    by : (t : Bool) → (a == n) ≡ t → count n (range_with_len (a + 1) k) ≤ 1 → length (cond t (a ∷ filter (λ i. i == n) (range_with_len (a + 1) k)) (filter (λ i. i == n) (range_with_len (a + 1) k))) ≤ 1
    by true e g = omega (arith, range-apart (a + 1) k n (omega (arith, eqb-true a n e)))
    by false e g = g

less-apart : (n m : ℕ) → T (is_lt (nat_cmp n m)) → (m == n) ≡ false
less-apart n m p = by (m == n) refl
  where
    by : (t : Bool) → (m == n) ≡ t → t ≡ false
    by true e = absurd (subst (λ o. T (is_lt o)) (ap (nat_cmp n) (eqb-true m n e) ∙ tied_itself nat_cmp_total n) p)
    by false e = refl

module _ {X : Type 0} where
  abbrev number : ℕ × X → ℕ
  number e = e.0

  sorted-apart : (n : ℕ) (es : List (ℕ × X)) → T (below_all nat_cmp n es) → count n (map number es) ≡ 0
  sorted-apart n [] h = refl
  sorted-apart n (e ∷ es) h =
      ap (λ t. length (cond t (e.0 ∷ filter (λ i. i == n) (map number es)) (filter (λ i. i == n) (map number es)))) (less-apart n e.0 (part-one (is_lt (nat_cmp n e.0)) (below_all nat_cmp n es) h))
      ∙ sorted-apart n es (part-two (is_lt (nat_cmp n e.0)) (below_all nat_cmp n es) h)

  -- the numbers of entries in order stand once
  pub sorted-distinct : (es : List (ℕ × X)) → T (is_sorted nat_cmp es) → AreDistinct (map number es)
  sorted-distinct [] h n = omega arith
  sorted-distinct (e ∷ es) h n = by (e.0 == n) refl (sorted-distinct es (part-two (below_all nat_cmp e.0 es) (is_sorted nat_cmp es) h) n)
    where
      alone : e.0 ≡ n → count n (map number es) ≡ 0
      alone q = sorted-apart n es (subst (λ m. T (below_all nat_cmp m es)) q (part-one (below_all nat_cmp e.0 es) (is_sorted nat_cmp es) h))

      by : (t : Bool) → (e.0 == n) ≡ t → count n (map number es) ≤ 1 → length (cond t (e.0 ∷ filter (λ i. i == n) (map number es)) (filter (λ i. i == n) (map number es))) ≤ 1
      by true q g = omega (arith, alone (eqb-true e.0 n q))
      by false q g = g

  -- a number of an entry is found
  pub among-found : (es : List (ℕ × X)) (n : ℕ) → is_among (map number es) n ≡ true → IsSome (find nat_cmp n es)
  among-found [] n h = absurd (true≢false (sym h))
  among-found (e ∷ es) n h = by (e.0 == n) refl h (among-found es n)
    where
      same : e.0 ≡ n → eq_by_cmp nat_cmp n e.0 ≡ true
      same q = ap (eq_by_cmp nat_cmp n) q ∙ ap is_eq (tied_itself nat_cmp_total n)

      some : (t : Bool) → IsSome (find nat_cmp n es) → IsSome (cond t (Some e.1) (find nat_cmp n es))
      some true g = refl
      some false g = g

      by : (t : Bool) → (e.0 == n) ≡ t → (t || is_among (map number es) n) ≡ true → (is_among (map number es) n ≡ true → IsSome (find nat_cmp n es)) → IsSome (find nat_cmp n (e ∷ es))
      by true q g rest = subst (λ t. IsSome (cond t (Some e.1) (find nat_cmp n es))) (sym (same (eqb-true e.0 n q))) refl
      by false q g rest = some (eq_by_cmp nat_cmp n e.0) (rest g)
