-- The replaced pages, as the anchored ones and the loose ones.
use Rattle.std.proofs.Common.{◌≡◌, inl, inr, ℕ, ◌+◌, ◌<◌, ◌≤◌, List, [], ◌∷◌, ◌++◌, Bool, true, false, Some, refl, ◌∙◌, ap, subst, length, get_or, arith}
use Rattle.std.specs.Prelude.{◌==◌, slice_get, slice_set, slice_index}
use Rattle.std.specs.List.{count_by, swap_remove}
use Rattle.std.proofs.lemmas.Bool.{cases_lt}
use Rattle.std.proofs.lemmas.List.{append_assoc, length-append}
use Rattle.std.proofs.lemmas.List.Sums.{sum_by-append, sum_by_push, count_by-le-length}
use Rattle.page_states.specs.declared.page_state.PageState.{PageState}
use Rattle.page_states.specs.declared.page_state.PageState.TheVariants.{Free}
use Rattle.page_states.specs.Counts.{times, once, once_at, IsListOf}
use Rattle.page_states.specs.States.{is_replaced}
use Rattle.page_states.specs.Effects.{NoneFrom}
use Rattle.page_states.proofs.Counting.{at_some, once_no, list_add, list_less, taken_out, listed_passes, passing_listed, as_many}
use Rattle.page_states.proofs.Frees.{times_at, index_in}

-- how often a number is in both lists
pub both : (q : ℕ) (a l : List ℕ) → times q (a ++ l) ≡ times q a + times q l
both q a l = sum_by-append (once (λ z. z == q)) a l

-- how often it is after one was added
pub pushed : (q p : ℕ) (l : List ℕ) → times q (l ++ p ∷ []) ≡ times q l + once (λ z. z == q) p
pushed q p l = sum_by_push (once (λ z. z == q)) l p

module _ (anchored loose : List ℕ) (states : List PageState) (olds : IsListOf is_replaced (anchored ++ loose) states) where
  -- a page that is not replaced is not anchored
  pub not_anchored : (p : ℕ) (x : PageState) → slice_get states p ≡ Some x → is_replaced x ≡ false → times p anchored ≡ 0
  not_anchored p x has fails =
      let none : times p (anchored ++ loose) ≡ 0 = olds p ∙ at_some is_replaced states p x has ∙ once_no is_replaced x fails in
      let sum : times p (anchored ++ loose) ≡ times p anchored + times p loose = both p anchored loose in
      omega (arith, none, sum)

  -- a loose page is replaced
  pub loose_replaced : (p : ℕ) (x : PageState) → 0 < times p loose → slice_get states p ≡ Some x → is_replaced x ≡ true
  loose_replaced p x some has =
      let sum : times p (anchored ++ loose) ≡ times p anchored + times p loose = both p anchored loose in
      listed_passes is_replaced (anchored ++ loose) states p x olds (omega (arith, some, sum)) has

  -- a loose page is not anchored
  pub loose_not_anchored : (p : ℕ) (x : PageState) → 0 < times p loose → slice_get states p ≡ Some x → times p anchored ≡ 0
  loose_not_anchored p x some has =
      let sum : times p (anchored ++ loose) ≡ times p anchored + times p loose = both p anchored loose in
      let one : times p (anchored ++ loose) ≡ 1 = passing_listed is_replaced (anchored ++ loose) states p x olds has (loose_replaced p x some has) in
      omega (arith, some, sum, one)

  -- a page comes to be replaced, and is loose
  pub olds_more : (p : ℕ) (x y : PageState) → slice_get states p ≡ Some x → is_replaced x ≡ false → is_replaced y ≡ true → IsListOf is_replaced (anchored ++ (loose ++ p ∷ [])) (slice_set states p y)
  olds_more p x y has was is = subst (λ (list : List ℕ). IsListOf is_replaced list (slice_set states p y)) (append_assoc anchored loose (p ∷ [])) (list_add is_replaced (anchored ++ loose) states p x y has was is olds)

  -- a loose page is replaced no more
  pub olds_less : (p : ℕ) (x y : PageState) (i d : ℕ) → slice_get states p ≡ Some x → i < length loose → get_or loose i d ≡ p → is_replaced y ≡ false → IsListOf is_replaced (anchored ++ swap_remove loose i d) (slice_set states p y)
  olds_less p x y i d has inside there is = list_less is_replaced (anchored ++ loose) (anchored ++ swap_remove loose i d) states p x y taken has is olds
    where
      taken : (r : ℕ) → times r (anchored ++ swap_remove loose i d) + once (λ z. z == r) p ≡ times r (anchored ++ loose)
      taken r =
          let new : times r (anchored ++ swap_remove loose i d) ≡ times r anchored + times r (swap_remove loose i d) = both r anchored (swap_remove loose i d) in
          let old : times r (anchored ++ loose) ≡ times r anchored + times r loose = both r anchored loose in
          let out : times r (swap_remove loose i d) + once (λ z. z == r) p ≡ times r loose = taken_out loose i d p r inside there in
          omega (arith, new, old, out)

  -- both lists together are no longer than the states
  pub olds_fit : length anchored + length loose ≤ length states
  olds_fit =
      let many : length (anchored ++ loose) ≡ count_by is_replaced states = as_many is_replaced Free refl (anchored ++ loose) states olds in
      let sum : length (anchored ++ loose) ≡ length anchored + length loose = length-append anchored loose in
      let most : count_by is_replaced states ≤ length states = count_by-le-length is_replaced states in
      omega (arith, many, sum, most)

  -- where no page of either list passes a test, no replaced page does
  pub none_of_replaced : (test : PageState → Bool) → NoneFrom test states anchored 0 → NoneFrom test states loose 0 → (p : ℕ) (x : PageState) → slice_get states p ≡ Some x → is_replaced x ≡ true → test x ≡ false
  none_of_replaced test in_anchored in_loose p x has is =
      let one : times p (anchored ++ loose) ≡ 1 = passing_listed is_replaced (anchored ++ loose) states p x olds has is in
      let sum : times p (anchored ++ loose) ≡ times p anchored + times p loose = both p anchored loose in
      elim (cases_lt 0 (times p anchored)) [
        | inl some ↦ of anchored in_anchored some
        | inr none ↦ of loose in_loose (omega (arith, one, sum, none))
      ]
    where
      of : (list : List ℕ) → NoneFrom test states list 0 → 0 < times p list → test x ≡ false
      of list none some =
          let at = index_in list p some in
          none at.0 x (omega arith) at.1 (ap (slice_get states) at.2 ∙ has)

  -- so no page does, where the test is of replaced pages
  pub none_of_both : (test : PageState → Bool) → ((x : PageState) → test x ≡ true → is_replaced x ≡ true) → NoneFrom test states anchored 0 → NoneFrom test states loose 0 → (p : ℕ) (x : PageState) → slice_get states p ≡ Some x → test x ≡ false
  none_of_both test within in_anchored in_loose p x has = by (test x) refl
    where
      by : (b : Bool) → test x ≡ b → test x ≡ false
      by false e = e
      by true e = none_of_replaced test in_anchored in_loose p x has (within x e)

-- where no page of one list passes, and none of the other, none of both lists does
pub none_in_both : (test : PageState → Bool) (states : List PageState) (a b : List ℕ) → NoneFrom test states a 0 → NoneFrom test states b 0 → NoneFrom test states (a ++ b) 0
none_in_both test states a b in_a in_b j x low within has = elim (cases_lt 0 (times p a)) [
  | inl some ↦ of a in_a some
  | inr none ↦ of b in_b (omega (arith, some, sum, none))
]
  where
    p : ℕ
    p = slice_index (a ++ b) j

    some : 0 < times p (a ++ b)
    some = times_at (a ++ b) j within

    sum : times p (a ++ b) ≡ times p a + times p b
    sum = both p a b

    of : (list : List ℕ) → NoneFrom test states list 0 → 0 < times p list → test x ≡ false
    of list none there =
        let at = index_in list p there in
        none at.0 x (omega arith) at.1 (ap (slice_get states) at.2 ∙ has)

module _ (a b loose : List ℕ) (states : List PageState) (olds : IsListOf is_replaced ((a ++ b) ++ loose) states) where
  -- how often a number is in three lists
  three : (q : ℕ) (x y z : List ℕ) → times q ((x ++ y) ++ z) ≡ times q x + times q y + times q z
  three q x y z =
      let outer : times q ((x ++ y) ++ z) ≡ times q (x ++ y) + times q z = both q (x ++ y) z in
      let inner : times q (x ++ y) ≡ times q x + times q y = both q x y in
      omega (arith, outer, inner)

  -- a page of the first anchor is replaced
  pub first_replaced : (p : ℕ) (x : PageState) → 0 < times p a → slice_get states p ≡ Some x → is_replaced x ≡ true
  first_replaced p x some has =
      let sum : times p ((a ++ b) ++ loose) ≡ times p a + times p b + times p loose = three p a b loose in
      listed_passes is_replaced ((a ++ b) ++ loose) states p x olds (omega (arith, some, sum)) has

  -- and so is one of the second
  pub second_replaced : (p : ℕ) (x : PageState) → 0 < times p b → slice_get states p ≡ Some x → is_replaced x ≡ true
  second_replaced p x some has =
      let sum : times p ((a ++ b) ++ loose) ≡ times p a + times p b + times p loose = three p a b loose in
      listed_passes is_replaced ((a ++ b) ++ loose) states p x olds (omega (arith, some, sum)) has

  -- the two anchors may change places
  pub olds_swapped : IsListOf is_replaced ((b ++ a) ++ loose) states
  olds_swapped q =
      let new : times q ((b ++ a) ++ loose) ≡ times q b + times q a + times q loose = three q b a loose in
      let old : times q ((a ++ b) ++ loose) ≡ times q a + times q b + times q loose = three q a b loose in
      let is : times q ((a ++ b) ++ loose) ≡ once_at is_replaced states q = olds q in
      omega (arith, new, old, is)

  -- a loose page becomes the first anchor's
  pub olds_held : (p i d : ℕ) → i < length loose → get_or loose i d ≡ p → IsListOf is_replaced (((a ++ p ∷ []) ++ b) ++ swap_remove loose i d) states
  olds_held p i d inside there q =
      let new : times q (((a ++ p ∷ []) ++ b) ++ swap_remove loose i d) ≡ times q (a ++ p ∷ []) + times q b + times q (swap_remove loose i d) = three q (a ++ p ∷ []) b (swap_remove loose i d) in
      let more : times q (a ++ p ∷ []) ≡ times q a + once (λ z. z == q) p = pushed q p a in
      let old : times q ((a ++ b) ++ loose) ≡ times q a + times q b + times q loose = three q a b loose in
      let out : times q (swap_remove loose i d) + once (λ z. z == q) p ≡ times q loose = taken_out loose i d p q inside there in
      let is : times q ((a ++ b) ++ loose) ≡ once_at is_replaced states q = olds q in
      omega (arith, new, more, old, out, is)

  -- a page of the first anchor becomes a loose one
  pub olds_loosened : (p i d : ℕ) → i < length a → get_or a i d ≡ p → IsListOf is_replaced ((swap_remove a i d ++ b) ++ (loose ++ p ∷ [])) states
  olds_loosened p i d inside there q =
      let new : times q ((swap_remove a i d ++ b) ++ (loose ++ p ∷ [])) ≡ times q (swap_remove a i d) + times q b + times q (loose ++ p ∷ []) = three q (swap_remove a i d) b (loose ++ p ∷ []) in
      let more : times q (loose ++ p ∷ []) ≡ times q loose + once (λ z. z == q) p = pushed q p loose in
      let old : times q ((a ++ b) ++ loose) ≡ times q a + times q b + times q loose = three q a b loose in
      let out : times q (swap_remove a i d) + once (λ z. z == q) p ≡ times q a = taken_out a i d p q inside there in
      let is : times q ((a ++ b) ++ loose) ≡ once_at is_replaced states q = olds q in
      omega (arith, new, more, old, out, is)

  -- the three lists together are no longer than the states
  pub three_fit : length a + length b + length loose ≤ length states
  three_fit =
      let most : length (a ++ b) + length loose ≤ length states = olds_fit (a ++ b) loose states olds in
      let sum : length (a ++ b) ≡ length a + length b = length-append a b in
      omega (arith, most, sum)
