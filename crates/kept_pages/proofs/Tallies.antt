-- How many pages pass a test, and whether one does, while pages change.
use Rattle.std.proofs.Common.{◌≡◌, ℕ, zero, suc, ◌+◌, ◌≤◌, List, [], ◌∷◌, Bool, true, false, ◌&&◌, ◌||◌, cond, refl, sym, ◌∙◌, ap, map, nat_lt, arith}
use Rattle.std.specs.Prelude.{slice_get, slice_set, Option, Some, None}
use Rattle.std.specs.List.{count_by, list_any}
use Rattle.std.specs.Option.{option_map_or}
use Rattle.std.proofs.lemmas.Bool.{lt-ltb, le-ltb}
use Rattle.std.proofs.lemmas.List.Sums.{sum_by-cons}
use Rattle.page_states.specs.declared.page_state.PageState.{PageState}
use Rattle.page_states.specs.Counts.{once, once_at}
use Rattle.page_states.proofs.Counting.{once_no, at_some}
use Rattle.page_states.proofs.Shown.{count_same}

-- one passes exactly where more than none do
pub any-counts : {X : Type 0} (test : X → Bool) (xs : List X) → list_any test xs ≡ nat_lt 0 (count_by test xs)
any-counts test [] = sym (le-ltb 0 0 (omega arith))
any-counts test (x ∷ xs) = by (test x) refl (any-counts test xs)
  where
    by : (t : Bool) → test x ≡ t → list_any test xs ≡ nat_lt 0 (count_by test xs) → (test x || list_any test xs) ≡ nat_lt 0 (count_by test (x ∷ xs))
    by true e rest =
        let one : once test x ≡ 1 = ap (λ (b : Bool). cond {A = ℕ} b 1 0) e in
        let sum : count_by test (x ∷ xs) ≡ once test x + count_by test xs = sum_by-cons (once test) x xs in
        ap (λ (b : Bool). b || list_any test xs) e ∙ sym (lt-ltb 0 (count_by test (x ∷ xs)) (omega (arith, one, sum)))
    by false e rest =
        let none : once test x ≡ 0 = once_no test x e in
        let sum : count_by test (x ∷ xs) ≡ once test x + count_by test xs = sum_by-cons (once test) x xs in
        let same : count_by test (x ∷ xs) ≡ count_by test xs = omega (arith, none, sum) in
        ap (λ (b : Bool). b || list_any test xs) e ∙ rest ∙ sym (ap (nat_lt 0) same)

-- a count of one at most is told by whether there is one
pub at-most-one : (c : ℕ) (b : Bool) → c ≤ 1 → b ≡ nat_lt 0 c → c ≡ cond b 1 0
at-most-one zero b few e = sym (ap (λ (t : Bool). cond {A = ℕ} t 1 0) (e ∙ le-ltb 0 0 (omega arith)))
at-most-one (suc c) b few e = sym (ap (λ (t : Bool). cond {A = ℕ} t 1 0) (e ∙ lt-ltb 0 (suc c) (omega arith)) ∙ omega (arith, few))

-- lists that pass at the same indexes pass alike
pub any-same : (test : PageState → Bool) (xs ys : List PageState) → ((q : ℕ) → once_at test ys q ≡ once_at test xs q) → list_any test ys ≡ list_any test xs
any-same test xs ys same = any-counts test ys ∙ ap (nat_lt 0) (count_same test xs ys same) ∙ sym (any-counts test xs)

-- two tests that tell the same of each page there
pub any-alike : (f g : PageState → Bool) (xs : List PageState) → ((q : ℕ) (x : PageState) → slice_get xs q ≡ Some x → f x ≡ g x) → list_any f xs ≡ list_any g xs
any-alike f g [] same = refl
any-alike f g (x ∷ xs) same = λ i. same 0 x refl i || any-alike f g xs (λ q y has. same (suc q) y has) i

-- a change after which a page passes where a fact holds and it passed before
pub any-mapped : (f : PageState → Bool) (change : PageState → PageState) (b : Bool) (xs : List PageState) → ((x : PageState) → f (change x) ≡ (b && f x)) → list_any f (map change xs) ≡ (b && list_any f xs)
any-mapped f change true [] each = refl
any-mapped f change false [] each = refl
any-mapped f change b (x ∷ xs) each = (λ i. each x i || any-mapped f change b xs each i) ∙ by b (f x) (list_any f xs)
  where
    by : (a s t : Bool) → ((a && s) || (a && t)) ≡ (a && (s || t))
    by true s t = refl
    by false s t = refl

-- a page that does not pass is changed to one that does not
pub unseen-set : (test : PageState → Bool) (xs : List PageState) (p q : ℕ) (y : PageState) → once_at test xs p ≡ 0 → test y ≡ false → once_at test (slice_set xs p y) q ≡ once_at test xs q
unseen-set test [] p q y was is = refl
unseen-set test (x ∷ xs) zero zero y was is = once_no test y is ∙ sym was
unseen-set test (x ∷ xs) zero (suc q) y was is = refl
unseen-set test (x ∷ xs) (suc p) zero y was is = refl
unseen-set test (x ∷ xs) (suc p) (suc q) y was is = unseen-set test xs p q y was is

-- an index whose page does not pass, where there is one
pub none-at : (test : PageState → Bool) (xs : List PageState) (q : ℕ) → ((x : PageState) → slice_get xs q ≡ Some x → test x ≡ false) → once_at test xs q ≡ 0
none-at test xs q fails = by (slice_get xs q) refl
  where
    by : (o : Option PageState) → slice_get xs q ≡ o → once_at test xs q ≡ 0
    by None e = ap (λ (o : Option PageState). option_map_or (once test) o 0) e
    by (Some x) e = at_some test xs q x e ∙ once_no test x (fails x e)

-- as many pass after a change of each page as passed another test before it
pub count-mapped : (f g : PageState → Bool) (change : PageState → PageState) (xs : List PageState) → ((x : PageState) → f (change x) ≡ g x) → count_by f (map change xs) ≡ count_by g xs
count-mapped f g change [] same = refl
count-mapped f g change (x ∷ xs) same = sum_by-cons (once f) (change x) (map change xs) ∙ (λ i. cond {A = ℕ} (same x i) 1 0 + count-mapped f g change xs same i) ∙ sym (sum_by-cons (once g) x xs)

-- where a page passes a test as often as two others, so do all
pub count-sum : (f g h : PageState → Bool) (xs : List PageState) → ((x : PageState) → once f x + once g x ≡ once h x) → count_by f xs + count_by g xs ≡ count_by h xs
count-sum f g h [] each = refl
count-sum f g h (x ∷ xs) each = omega (arith, each x, count-sum f g h xs each, sum_by-cons (once f) x xs, sum_by-cons (once g) x xs, sum_by-cons (once h) x xs)
