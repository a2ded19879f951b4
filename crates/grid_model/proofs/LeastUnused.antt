-- The number of a new bucket is the least that no box has.
use Rattle.std.proofs.Common.{◌≡◌, ◌≢◌, ◌<◌, ◌≤◌, ◌+◌, ℕ, zero, suc, Bool, true, false, cond, ◌||◌, List, [], ◌∷◌, length, Option, Some, None, refl, sym, ap, subst, ◌∙◌, arith, true≢false, nat_cmp, is_some, is_none}
use Rattle.std.specs.Option.{unwrap_or}
use Rattle.std.specs.Ordering.{eq_by_cmp}
use Rattle.std.specs.List as lists
use Rattle.std.specs.List.{range_with_len}
use Rattle.std.specs.FinMap.Entries.{find}
use Rattle.grid_model.specs.Lists.{below}
use Rattle.grid_model.specs.Layouts.{Layout, box, unused}
use Rattle.grid_model.specs.LayoutLaws.{IsLeastUnused}
use Rattle.grid_model.proofs.Found.{one-number, no-tie, two-numbers}

-- what a search among numbers in a row gives: the first that passes, or none where none does
data Searched (p : ℕ → Bool) (i len : ℕ) (o : Option ℕ) : Type 0 where
  Found : (n : ℕ) → o ≡ Some n → p n ≡ true → n < i + len → ((m : ℕ) → i ≤ m → m < n → p m ≡ false) → Searched p i len o
  Missed : ((m : ℕ) → i ≤ m → m < i + len → p m ≡ false) → Searched p i len o

begins : (p : ℕ → Bool) (i n : ℕ) → p i ≡ false → ((m : ℕ) → i + 1 ≤ m → m < n → p m ≡ false) → (m : ℕ) → i ≤ m → m < n → p m ≡ false
begins p i n here rest m l h = by (eq_by_cmp nat_cmp m i) refl
  where
    by : (t : Bool) → eq_by_cmp nat_cmp m i ≡ t → p m ≡ false
    by true e = ap p (one-number m i e) ∙ here
    by false e = let apart : m ≢ i = two-numbers m i e in rest m (omega (arith, l, apart)) h

searched : (p : ℕ → Bool) (i len : ℕ) → Searched p i len (lists.find p (range_with_len i len))
searched p i zero = Missed (λ m l h. absurd (omega (arith, l, h)))
searched p i (suc len) = by (p i) refl (searched p (i + 1) len)
  where
    by : (t : Bool) → p i ≡ t → Searched p (i + 1) len (lists.find p (range_with_len (i + 1) len)) → Searched p i (suc len) (cond t (Some i) (lists.find p (range_with_len (i + 1) len)))
    by true e s = Found i refl e (omega arith) (λ m l h. absurd (omega (arith, l, h)))
    by false e (Found n o f h first) = Found n o f (omega (arith, h)) (begins p i n e first)
    by false e (Missed none) = Missed (λ m l h. begins p i (i + 1 + len) e none m l (omega (arith, h)))

-- 1 where the answer is true, else 0
abbrev one_if : Bool → ℕ
one_if t = cond t 1 0

-- how many of len numbers from i on pass
abbrev hits : (ℕ → Bool) → ℕ → ℕ → ℕ
hits p i zero = 0
hits p i (suc len) = one_if (p i) + hits p (i + 1) len

hits_alike : (p q : ℕ → Bool) (i len : ℕ) → ((n : ℕ) → p n ≡ q n) → hits p i len ≡ hits q i len
hits_alike p q i len same = ap (λ r. hits r i len) (λ j n. same n j)

hits_none : (p : ℕ → Bool) (i len : ℕ) → ((m : ℕ) → i ≤ m → p m ≡ false) → hits p i len ≡ 0
hits_none p i zero none = refl
hits_none p i (suc len) none =
    let here : one_if (p i) ≡ 0 = ap one_if (none i (omega arith)) in
    let rest : hits p (i + 1) len ≡ 0 = hits_none p (i + 1) len (λ m l. none m (omega (arith, l))) in
    omega (arith, here, rest)

hits_all : (p : ℕ → Bool) (i len : ℕ) → ((m : ℕ) → i ≤ m → m < i + len → p m ≡ true) → hits p i len ≡ len
hits_all p i zero all = refl
hits_all p i (suc len) all =
    let here : one_if (p i) ≡ 1 = ap one_if (all i (omega arith) (omega arith)) in
    let rest : hits p (i + 1) len ≡ len = hits_all p (i + 1) len (λ m l h. all m (omega (arith, l)) (omega (arith, h))) in
    omega (arith, here, rest)

one_of_two : (a b : Bool) → one_if (a || b) ≤ one_if a + one_if b
one_of_two true true = omega arith
one_of_two true false = omega arith
one_of_two false true = omega arith
one_of_two false false = omega arith

hits_either : (p q : ℕ → Bool) (i len : ℕ) → hits (λ n. p n || q n) i len ≤ hits p i len + hits q i len
hits_either p q i zero = omega arith
hits_either p q i (suc len) =
    let here : one_if (p i || q i) ≤ one_if (p i) + one_if (q i) = one_of_two (p i) (q i) in
    let rest : hits (λ n. p n || q n) (i + 1) len ≤ hits p (i + 1) len + hits q (i + 1) len = hits_either p q (i + 1) len in
    omega (arith, here, rest)

-- one number is hit once at most
hits_one : (k i len : ℕ) → hits (λ n. eq_by_cmp nat_cmp n k) i len ≤ 1
hits_one k i zero = omega arith
hits_one k i (suc len) = by (eq_by_cmp nat_cmp i k) refl (hits_one k (i + 1) len)
  where
    by : (t : Bool) → eq_by_cmp nat_cmp i k ≡ t → hits (λ n. eq_by_cmp nat_cmp n k) (i + 1) len ≤ 1 → one_if t + hits (λ n. eq_by_cmp nat_cmp n k) (i + 1) len ≤ 1
    by true e rest =
        let none : hits (λ n. eq_by_cmp nat_cmp n k) (i + 1) len ≡ 0 = hits_none (λ n. eq_by_cmp nat_cmp n k) (i + 1) len (λ m l. no-tie m k (let same : i ≡ k = one-number i k e in omega (arith, l, same))) in
        omega (arith, none)
    by false e rest = omega (arith, rest)

is_some_cond : {X : Type 0} (t : Bool) (x : X) (o : Option X) → is_some (cond t (Some x) o) ≡ (t || is_some o)
is_some_cond true x o = refl
is_some_cond false x o = refl

-- as many numbers are found at most as there are entries
hits_found : {X : Type 0} (es : List (ℕ × X)) (len : ℕ) → hits (λ n. is_some (find nat_cmp n es)) 0 len ≤ length es
hits_found [] len = let none : hits (λ n. false) 0 len ≡ 0 = hits_none (λ n. false) 0 len (λ m l. refl) in omega (arith, none)
hits_found (e ∷ es) len =
    let alike : hits (λ n. is_some (find nat_cmp n (e ∷ es))) 0 len ≡ hits (λ n. eq_by_cmp nat_cmp n e.0 || is_some (find nat_cmp n es)) 0 len =
    hits_alike (λ n. is_some (find nat_cmp n (e ∷ es))) (λ n. eq_by_cmp nat_cmp n e.0 || is_some (find nat_cmp n es)) 0 len (λ n. is_some_cond (eq_by_cmp nat_cmp n e.0) e.1 (find nat_cmp n es)) in
    let either = hits_either (λ n. eq_by_cmp nat_cmp n e.0) (λ n. is_some (find nat_cmp n es)) 0 len in
    let one = hits_one e.0 0 len in
    let rest = hits_found es len in
    omega (arith, alike, either, one, rest)

none_is : {X : Type 0} (o : Option X) → is_none o ≡ true → o ≡ None
none_is None e = refl
none_is (Some x) e = absurd (true≢false (sym e))

some_is : {X : Type 0} (o : Option X) → is_none o ≡ false → is_some o ≡ true
some_is None e = absurd (true≢false e)
some_is (Some x) e = refl

-- the unused number: no box has it, a box has each lower one, and it is at most the number of boxes
record IsUnused {K : ℕ} (L : Layout K) (n : ℕ) : Type 0 where
  none : box L n ≡ None
  least : (m : ℕ) → m < n → box L m ≢ None
  few : n ≤ length L.boxes

unused-is : {K : ℕ} (L : Layout K) → IsUnused L (unused L)
unfolding unused
unused-is {K} L = by (lists.find (λ n. is_none (box L n)) (below (length L.boxes + 1))) (searched (λ n. is_none (box L n)) 0 (length L.boxes + 1))
  where
    by : (o : Option ℕ) → Searched (λ n. is_none (box L n)) 0 (length L.boxes + 1) o → IsUnused L (unwrap_or o 0)
    by o (Found n f p h first) = subst (λ (q : Option ℕ). IsUnused L (unwrap_or q 0)) (sym f) (record {
      none = none_is (box L n) p;
      least = λ m l e. true≢false (ap is_none (sym e) ∙ first m (omega arith) l);
      few = omega (arith, h);
    })
    by o (Missed none) =
        let all : hits (λ n. is_some (box L n)) 0 (length L.boxes + 1) ≡ length L.boxes + 1 = hits_all (λ n. is_some (box L n)) 0 (length L.boxes + 1) (λ m l h. some_is (box L m) (none m l h)) in
        let found : hits (λ n. is_some (box L n)) 0 (length L.boxes + 1) ≤ length L.boxes = hits_found L.boxes (length L.boxes + 1) in
        absurd (omega (arith, all, found))

-- the number of a new bucket is the least that no box has
pub least-unused : {K : ℕ} → IsLeastUnused K
least-unused = record { none = λ L. (unused-is L).none; least = λ L. (unused-is L).least; few = λ L. (unused-is L).few }
