-- Pages that pass a test become free one after the other.
use Rattle.std.proofs.Common.{◌≡◌, ◌⊎◌, inl, inr, ℕ, zero, suc, ◌+◌, ◌-◌, ◌<◌, ◌≤◌, List, [], ◌∷◌, Bool, true, false, ◌&&◌, ◌||◌, cond, Some, None, refl, sym, ◌∙◌, ap, length, length-take, get_or, map, arith}
use Rattle.std.specs.Prelude.{◌≢◌, ◌==◌, slice_get, slice_set, slice_index, not, min}
use Rattle.std.specs.List.{swap_remove, list_any}
use Rattle.std.proofs.Math.Seq.{map-set_same}
use Rattle.std.proofs.lemmas.Option.{get_or_from_slice_get, same_Some}
use Rattle.std.proofs.lemmas.Bool.{cases_eq}
use Rattle.std.proofs.lemmas.List.{get_or-take, get_or-set_same, get_or-set_other, get_or_default}
use Rattle.std.proofs.lemmas.List.Sums.{sum_by-cons, get_or-le-sum_by}
use Rattle.grid_types.specs.declared.owner.Owner.{Owner}
use Rattle.page_states.specs.declared.page_state.PageState.{PageState}
use Rattle.page_states.specs.declared.page_state.PageState.TheVariants.{Free, Claimed, Live}
use Rattle.page_states.specs.Counts.{times, once, IsListOf}
use Rattle.page_states.specs.States.{is_claimed, is_claimed_by, is_replaced, is_kept}
use Rattle.page_states.specs.Effects.{freed, is_gone, is_of_roots, NoneFrom}
use Rattle.page_states.proofs.Lists.{get_set}
use Rattle.page_states.proofs.Counting.{once_same, once_other, passing_listed}

-- what stands at an index is in the list
pub times_at : (list : List ℕ) (at : ℕ) → at < length list → 0 < times (slice_index list at) list
times_at list at inside =
    let here : once (λ z. z == slice_index list at) (get_or list at 0) ≤ times (slice_index list at) list = get_or-le-sum_by (once (λ z. z == slice_index list at)) list at 0 inside in
    let one : once (λ z. z == slice_index list at) (get_or list at 0) ≡ 1 = once_same (slice_index list at) in
    omega (arith, here, one)

-- what is in the list stands at an index
pub index_in : (list : List ℕ) (p : ℕ) → 0 < times p list → (j : ℕ) × (j < length list) × (slice_index list j ≡ p)
index_in [] p some = absurd (omega arith)
index_in (x ∷ list) p some = by (cases_eq p x) (index_in list p)
  where
    by : (p ≡ x) ⊎ (p ≢ x) → (0 < times p list → (j : ℕ) × (j < length list) × (slice_index list j ≡ p)) → (j : ℕ) × (j < length (x ∷ list)) × (slice_index (x ∷ list) j ≡ p)
    by (inl e) again = (0, omega arith, sym e)
    by (inr n) again =
        let sum : times p (x ∷ list) ≡ once (λ z. z == p) x + times p list = sum_by-cons (once (λ z. z == p)) x list in
        let none : once (λ z. z == p) x ≡ 0 = once_other x p n in
        let rest = again (omega (arith, sum, none)) in
        (suc rest.0, omega (arith, rest.1), rest.2)

-- what stands at an index after one was taken out stood at some index before
out_at : (list : List ℕ) (at d j : ℕ) → at < length list → j < length (swap_remove list at d) → (k : ℕ) × (k < length list) × (slice_index (swap_remove list at d) j ≡ slice_index list k) × (at ≤ j → at + 1 ≤ k)
out_at list at d j inside low = by (cases_eq j at)
  where
    last : ℕ
    last = get_or list (length list - 1) d

    short : j < length list - 1
    short = let same : length (swap_remove list at d) ≡ min (length list - 1) (length (slice_set list at (get_or list (length list - 1) d))) = length-take (length list - 1) (slice_set list at (get_or list (length list - 1) d)) in omega (arith, same, low)

    by : (j ≡ at) ⊎ (j ≢ at) → (k : ℕ) × (k < length list) × (slice_index (swap_remove list at d) j ≡ slice_index list k) × (at ≤ j → at + 1 ≤ k)
    by (inl e) = (
      length list - 1,
      omega (arith, inside),
      get_or-take (length list - 1) (slice_set list at (get_or list (length list - 1) d)) j 0 short
          ∙ ap (λ (k : ℕ). slice_index (slice_set list at (get_or list (length list - 1) d)) k) e
          ∙ get_or-set_same list at (get_or list (length list - 1) d) 0 inside
          ∙ get_or_default list (length list - 1) d 0 (omega (arith, inside)),
      λ h. omega (arith, short, e),
    )
    by (inr n) = (
      j,
      omega (arith, short),
      get_or-take (length list - 1) (slice_set list at (get_or list (length list - 1) d)) j 0 short ∙ get_or-set_other list at j (get_or list (length list - 1) d) 0 n,
      λ h. omega (arith, h, n),
    )

-- a page that passes was freed and taken out: from its index on none passes
pub none_out : (test : PageState → Bool) (xs : List PageState) (list : List ℕ) (at d p : ℕ) → at < length list → test Free ≡ false → NoneFrom test xs list (at + 1) → NoneFrom test (slice_set xs p Free) (swap_remove list at d) at
none_out test xs list at d p inside fails above j x low within has =
    let from = out_at list at d j inside within in
    elim (get_set xs p (slice_index (swap_remove list at d) j) Free x has) [
      | inl w ↦ ap test w.1 ∙ fails
      | inr w ↦ above from.0 x (from.3 low) from.1 (ap (slice_get xs) (sym from.2) ∙ w.1)
    ]

-- a page is taken out, and from its index on none passes
pub none_taken : (test : PageState → Bool) (xs : List PageState) (list : List ℕ) (at d : ℕ) → at < length list → NoneFrom test xs list (at + 1) → NoneFrom test xs (swap_remove list at d) at
none_taken test xs list at d inside above j x low within has =
    let from = out_at list at d j inside within in
    above from.0 x (from.3 low) from.1 (ap (slice_get xs) (sym from.2) ∙ has)

-- a page that does not pass stays
pub none_more : (test : PageState → Bool) (xs : List PageState) (list : List ℕ) (at : ℕ) → ((x : PageState) → slice_get xs (slice_index list at) ≡ Some x → test x ≡ false) → NoneFrom test xs list (at + 1) → NoneFrom test xs list at
none_more test xs list at here above j x low within has = elim (cases_eq j at) [
  | inl e ↦ here x (ap (λ (k : ℕ). slice_get xs (slice_index list k)) (sym e) ∙ has)
  | inr n ↦ above j x (omega (arith, low, n)) within has
]

-- where no page of the list passes, no page does
pub none_pass : (test all : PageState → Bool) (xs : List PageState) (list : List ℕ) → ((x : PageState) → test x ≡ true → all x ≡ true) → IsListOf all list xs → NoneFrom test xs list 0 → (p : ℕ) (x : PageState) → slice_get xs p ≡ Some x → test x ≡ false
none_pass test all xs list within is none p x has = by (test x) refl
  where
    by : (b : Bool) → test x ≡ b → test x ≡ false
    by false e = e
    by true e =
        let one : times p list ≡ 1 = passing_listed all list xs p x is has (within x e) in
        let at = index_in list p (omega (arith, one)) in
        none at.0 x (omega arith) at.1 (ap (slice_get xs) at.2 ∙ has)

-- where no page passes, none becomes free
pub freed_none : (test : PageState → Bool) (xs : List PageState) → ((p : ℕ) (x : PageState) → slice_get xs p ≡ Some x → test x ≡ false) → map (freed test) xs ≡ xs
freed_none test [] none = refl
freed_none test (x ∷ xs) none =
    let first : freed test x ≡ x = ap (λ (b : Bool). cond b Free x) (none 0 x refl) in
    let rest : map (freed test) xs ≡ xs = freed_none test xs (λ p y has. none (suc p) y has) in
    λ i. first i ∷ rest i

either_free : (b : Bool) → cond b Free Free ≡ Free
either_free true = refl
either_free false = refl

-- a page that passes may become free first
pub freed_step : (test : PageState → Bool) (xs : List PageState) (p : ℕ) (x : PageState) → slice_get xs p ≡ Some x → test x ≡ true → map (freed test) (slice_set xs p Free) ≡ map (freed test) xs
freed_step test xs p x has passes =
    map-set_same (freed test) xs p Free x (either_free (test Free) ∙ ap (λ (b : Bool). cond b Free x) (sym passes) ∙ ap (freed test) (sym (get_or_from_slice_get xs p x x has)))

first_holds : (a b : Bool) → (a && b) ≡ true → a ≡ true
first_holds true b e = refl
first_holds false b e = absurd cc

and_false : (a : Bool) → (a && false) ≡ false
and_false true = refl
and_false false = refl

-- a replaced page that is not kept is gone
pub gone_yes : (places : List ℕ) (x : PageState) → is_replaced x ≡ true → is_kept places x ≡ false → is_gone places x ≡ true
gone_yes places x r k = λ i. r i && not (k i)

-- a kept page is not
pub gone_no : (places : List ℕ) (x : PageState) → is_kept places x ≡ true → is_gone places x ≡ false
gone_no places x k = ap (λ (b : Bool). is_replaced x && not b) k ∙ and_false (is_replaced x)

pub of_roots_yes : (pins roots : List ℕ) (x : PageState) → is_replaced x ≡ true → (is_kept roots x && not (is_kept pins x)) ≡ true → is_of_roots pins roots x ≡ true
of_roots_yes pins roots x r k = λ i. r i && k i

pub of_roots_no : (pins roots : List ℕ) (x : PageState) → (is_kept roots x && not (is_kept pins x)) ≡ false → is_of_roots pins roots x ≡ false
of_roots_no pins roots x k = ap (λ (b : Bool). is_replaced x && b) k ∙ and_false (is_replaced x)

pub claimed_by_is_claimed : (seat : ℕ) (x : PageState) → is_claimed_by seat x ≡ true → is_claimed x ≡ true
claimed_by_is_claimed seat Free e = absurd cc
claimed_by_is_claimed seat (Claimed s) e = refl
claimed_by_is_claimed seat (Live o from to) e = absurd cc

pub gone_is_replaced : (places : List ℕ) (x : PageState) → is_gone places x ≡ true → is_replaced x ≡ true
gone_is_replaced places x e = first_holds (is_replaced x) (not (is_kept places x)) e

pub of_roots_is_replaced : (pins roots : List ℕ) (x : PageState) → is_of_roots pins roots x ≡ true → is_replaced x ≡ true
of_roots_is_replaced pins roots x e = first_holds (is_replaced x) (is_kept roots x && not (is_kept pins x)) e

-- a replaced page has an owner and both its places
pub replaced_is : (x : PageState) → is_replaced x ≡ true → (o : Owner) × (from : ℕ) × (to : ℕ) × (x ≡ Live o from (Some to))
replaced_is Free e = absurd cc
replaced_is (Claimed s) e = absurd cc
replaced_is (Live o from None) e = absurd cc
replaced_is (Live o from (Some to)) e = (o, from, to, refl)

-- a page that passes shows that one does
pub any_passes : (test : PageState → Bool) (xs : List PageState) (p : ℕ) (x : PageState) → slice_get xs p ≡ Some x → test x ≡ true → list_any test xs ≡ true
any_passes test [] p x has e = absurd cc
any_passes test (y ∷ xs) zero x has e = by (test y) (ap test (same_Some y x has) ∙ e) where
  by : (b : Bool) → b ≡ true → (b || list_any test xs) ≡ true
  by true is = refl
  by false is = absurd cc
any_passes test (y ∷ xs) (suc p) x has e = by (test y) (any_passes test xs p x has e) where
  by : (b : Bool) → list_any test xs ≡ true → (b || list_any test xs) ≡ true
  by true is = refl
  by false is = is

pub none_passes : (test : PageState → Bool) (xs : List PageState) → ((p : ℕ) (x : PageState) → slice_get xs p ≡ Some x → test x ≡ false) → list_any test xs ≡ false
none_passes test [] none = refl
none_passes test (x ∷ xs) none = by (test x) (none 0 x refl) (none_passes test xs (λ p y has. none (suc p) y has)) where
  by : (b : Bool) → b ≡ false → list_any test xs ≡ false → (b || list_any test xs) ≡ false
  by true is rest = absurd cc
  by false is rest = rest
