-- Which owners have a page at a place, as owners that have a content or none.
use Rattle.std.proofs.Common.{◌≡◌, ℕ, zero, suc, ◌+◌, ◌≤◌, List, [], ◌∷◌, Bool, true, false, ◌||◌, cond, Option, Some, None, refl, sym, ◌∙◌, ap, arith, true≢false}
use Rattle.std.specs.Prelude.{slice_get, is_some}
use Rattle.std.specs.List.{count_by, list_any}
use Rattle.std.specs.Cmp.{both_ways}
use Rattle.std.proofs.lemmas.List.Sums.{sum_by-cons}
use Rattle.std.proofs.lemmas.Option.{same_Some}
use Rattle.grid_types.specs.declared.owner.Owner.{Owner}
use Rattle.page_states.specs.declared.page_state.PageState.{PageState}
use Rattle.page_states.specs.Counts.{once}
use Rattle.page_states.specs.States.{shows}
use Rattle.page_states.specs.Effects.{ShowsNone}
use Rattle.page_states.specs.Laws.{Serves}
use Rattle.page_states.proofs.Counting.{once_no}
use Rattle.grid_model.proofs.Truths.{or-left, or-right}

once_yes : {X : Type 0} (test : X → Bool) (x : X) → test x ≡ true → once test x ≡ 1
once_yes test x e = ap (λ (b : Bool). cond b 1 0) e

-- no page has a byte
abbrev pub no_bytes : ℕ → List ℕ
no_bytes p = []

-- an owner has a content where it has a page at the place
abbrev pub content_at : ℕ → List PageState → Owner → Option (List ℕ)
content_at place states o = cond (list_any (shows o place) states) (Some []) None

-- an element that passes is found
pub any_there : {X : Type 0} (test : X → Bool) (xs : List X) (p : ℕ) (x : X) → slice_get xs p ≡ Some x → test x ≡ true → list_any test xs ≡ true
any_there test [] p x has passes = absurd cc
any_there test (y ∷ ys) zero x has passes = or-left (test y) (list_any test ys) (ap test (same_Some y x has) ∙ passes)
any_there test (y ∷ ys) (suc p) x has passes = or-right (test y) (list_any test ys) (any_there test ys p x has passes)

-- where one is found, one is there
pub any_gives : {X : Type 0} (test : X → Bool) (xs : List X) → list_any test xs ≡ true → (p : ℕ) × (x : X) × (slice_get xs p ≡ Some x) × (test x ≡ true)
any_gives test [] e = absurd (true≢false (sym e))
any_gives {X} test (y ∷ ys) e = by (test y) refl e (any_gives test ys)
  where
    by : (b : Bool) → test y ≡ b → (b || list_any test ys) ≡ true → (list_any test ys ≡ true → (p : ℕ) × (x : X) × (slice_get ys p ≡ Some x) × (test x ≡ true)) → (p : ℕ) × (x : X) × (slice_get (y ∷ ys) p ≡ Some x) × (test x ≡ true)
    by true is f rest = (zero, y, refl, is)
    by false is f rest = let w = rest f in (suc w.0, w.1, w.2, w.3)

-- where one passes at most, as many pass as are found
pub counted : {X : Type 0} (test : X → Bool) (xs : List X) → count_by test xs ≤ 1 → count_by test xs ≡ cond (list_any test xs) 1 0
counted test [] few = refl
counted test (x ∷ xs) few = by (test x) refl (counted test xs)
  where
    by : (b : Bool) → test x ≡ b → (count_by test xs ≤ 1 → count_by test xs ≡ cond (list_any test xs) 1 0) → count_by test (x ∷ xs) ≡ cond (b || list_any test xs) 1 0
    by true is rest =
        let sum : count_by test (x ∷ xs) ≡ once test x + count_by test xs = sum_by-cons (once test) x xs in
        let one : once test x ≡ 1 = once_yes test x is in
        omega (arith, sum, one, few)
    by false is rest =
        let sum : count_by test (x ∷ xs) ≡ once test x + count_by test xs = sum_by-cons (once test) x xs in
        let none : once test x ≡ 0 = once_no test x is in
        let others : count_by test xs ≡ cond (list_any test xs) 1 0 = rest (omega (arith, sum, none, few)) in
        omega (arith, sum, none, others)

pub once_content : (b : Bool) → once is_some (cond {A = Option (List ℕ)} b (Some []) None) ≡ cond b 1 0
once_content true = refl
once_content false = refl

pub some_content : (b : Bool) → is_some (cond {A = Option (List ℕ)} b (Some []) None) ≡ b
some_content true = refl
some_content false = refl

-- where each owner has one page at most, those with a page are served
pub serves_shown : (place : ℕ) (states : List PageState) → ((o : Owner) → count_by (shows o place) states ≤ 1) → Serves (content_at place states) no_bytes place states
serves_shown place states few = record {
  one = λ o. counted (shows o place) states (few o) ∙ sym (once_content (list_any (shows o place) states));
  spelled = λ p o x has shown. ap (λ (b : Bool). cond {A = Option (List ℕ)} b (Some []) None) (any_there (shows o place) states p x has shown);
}

module _ (content : Owner → Option (List ℕ)) (bytes : ℕ → List ℕ) (place : ℕ) (states : List PageState) (served : Serves content bytes place states) where
  at_most : (b : Bool) → cond {A = ℕ} b 1 0 ≤ 1
  at_most true = omega arith
  at_most false = omega arith

  -- each owner that is served has one page at most
  pub few_shown : (o : Owner) → count_by (shows o place) states ≤ 1
  few_shown o =
      let one : count_by (shows o place) states ≡ once is_some (content o) = served.one o in
      let few : once is_some (content o) ≤ 1 = at_most (is_some (content o)) in
      omega (arith, one, few)

  means : (a b : Bool) → cond {A = ℕ} a 1 0 ≡ cond {A = ℕ} b 1 0 → b ≡ true → a ≡ true
  means true b e is = refl
  means false true e is = absurd (omega (arith, e))
  means false false e is = is

  -- and has one exactly where it has a content
  pub shown_is : (o : Owner) → list_any (shows o place) states ≡ is_some (content o)
  shown_is o = both_ways (list_any (shows o place) states) (is_some (content o))
      (λ e. let w = any_gives (shows o place) states e in ap is_some (served.spelled w.0 o w.1 w.2 w.3))
      (means (list_any (shows o place) states) (is_some (content o)) (sym (counted (shows o place) states (few_shown o)) ∙ served.one o))

-- where no page is shown, none is found
pub none_shown : (o : Owner) (place : ℕ) (states : List PageState) → ShowsNone o place states → list_any (shows o place) states ≡ false
none_shown o place states none = by (list_any (shows o place) states) refl
  where
    by : (b : Bool) → list_any (shows o place) states ≡ b → list_any (shows o place) states ≡ false
    by false e = e
    by true e =
        let w = any_gives (shows o place) states e in
        let no : false ≡ true = sym (none w.0 w.1 w.2) ∙ w.3 in
        absurd (true≢false (sym no))
