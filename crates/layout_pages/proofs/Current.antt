-- The current page of an owner, where it is served at the front.
use Rattle.std.proofs.Common.{◌≡◌, ◌<◌, ◌≤◌, ◌+◌, ◌&&◌, ℕ, suc, Bool, true, false, cond, List, [], ◌∷◌, Option, Some, None, is_some, refl, sym, ap, ◌∙◌, arith, true≢false}
use Rattle.std.specs.Prelude.{slice_get}
use Rattle.std.specs.List.{count_by}
use Rattle.std.proofs.lemmas.Bool.{le-leb}
use Rattle.std.proofs.lemmas.List.Sums.{sum_by-cons}
use Rattle.grid_types.specs.declared.owner.Owner.{Owner}
use Rattle.grid_types.specs.Owners.{same_owner}
use Rattle.grid_types.proofs.Numbers.{first}
use Rattle.page_states.specs.declared.page_state.PageState.{PageState}
use Rattle.page_states.specs.declared.page_state.PageState.TheVariants.{Free, Claimed, Live}
use Rattle.page_states.specs.Counts.{once}
use Rattle.page_states.specs.States.{is_current_at, shows}
use Rattle.page_states.specs.Laws.{Serves, Settled}
use Rattle.page_states.proofs.Endings.{same_owner_is, same_owner_refl}
use Rattle.layout_pages.specs.Holding.{IsCurrentAt}
use Rattle.layout_pages.proofs.Sweeps.{replaced-unseen}

-- where some element passes a test, there is one that does
pub passing : {X : Type 0} (test : X → Bool) (xs : List X) → 0 < count_by test xs → (p : ℕ) × (x : X) × (slice_get xs p ≡ Some x) × (test x ≡ true)
passing test [] some = absurd (omega (arith, some))
passing {X} test (x ∷ xs) some = by (test x) refl (passing test xs)
  where
    by : (b : Bool) → test x ≡ b → (0 < count_by test xs → (p : ℕ) × (y : X) × (slice_get xs p ≡ Some y) × (test y ≡ true)) → (p : ℕ) × (y : X) × (slice_get (x ∷ xs) p ≡ Some y) × (test y ≡ true)
    by true e rest = (0, x, refl, e)
    by false e rest =
        let none : once test x ≡ 0 = ap (λ (b : Bool). cond b 1 0) e in
        let sum : count_by test (x ∷ xs) ≡ once test x + count_by test xs = sum_by-cons (once test) x xs in
        let behind = rest (omega (arith, some, none, sum)) in
        (suc behind.0, behind.1, behind.2, behind.3)

-- a page is the owner's current one, and holds these bytes
pub record HasPage (bytes : ℕ → List ℕ) (front : ℕ) (states : List PageState) (o : Owner) (b : List ℕ) : Type 0 where
  pub page : ℕ
  pub from : ℕ
  pub there : slice_get states page ≡ Some (Live o from None)
  pub began : from ≤ front
  pub holds : b ≡ bytes page

-- what shows an owner at the front, and did not end, is its current page
shown-current : (o : Owner) (front : ℕ) (x : PageState) → shows o front x ≡ true → ((w : Owner) (from to : ℕ) → x ≡ Live w from (Some to) → to ≤ front) → (from : ℕ) × (x ≡ Live o from None)
shown-current o front Free shown ended = absurd (true≢false (sym shown))
shown-current o front (Claimed s) shown ended = absurd (true≢false (sym shown))
shown-current o front (Live w from (Some to)) shown ended = absurd (true≢false (sym shown ∙ replaced-unseen o front (Live w from (Some to)) refl ended))
shown-current o front (Live w from None) shown ended = (from, ap (λ (z : Owner). Live z from None) (same_owner_is w o (first (same_owner w o) (is_current_at front (Live w from None)) shown)))

module _ (content : Owner → Option (List ℕ)) (bytes : ℕ → List ℕ) (front : ℕ) (states : List PageState) (settled : Settled front states) (served : Serves content bytes front states) where
  -- an owner that has a page has a current one, which holds it
  pub current-page : (o : Owner) (b : List ℕ) → content o ≡ Some b → HasPage bytes front states o b
  current-page o b has =
      let one : count_by (shows o front) states ≡ 1 = served.one o ∙ ap (λ (m : Option (List ℕ)). once is_some m) has in
      let found = passing (shows o front) states (omega (arith, one)) in
      let is = shown-current o front found.1 found.3 (λ w from to e. settled.ended_by found.0 w from to (found.2 ∙ ap (λ (z : PageState). Some z) e)) in
      let there : slice_get states found.0 ≡ Some (Live o is.0 None) = found.2 ∙ ap (λ (z : PageState). Some z) is.1 in
      record {
        page = found.0;
        from = is.0;
        there = there;
        began = settled.began found.0 o is.0 there;
        holds = let same : Some b ≡ Some (bytes found.0) = sym has ∙ served.spelled found.0 o found.1 found.2 found.3 in cc;
      }

  -- and one that has none has no current page
  pub no-page : (o : Owner) → content o ≡ None → (p from : ℕ) → slice_get states p ≡ Some (Live o from None) → ⊥
  no-page o none p from there =
      let low : from ≤ front = settled.began p o from there in
      let shown : shows o front (Live o from None) ≡ true = (λ i. same_owner_refl o i && le-leb from front low i) in
      let some : Some (bytes p) ≡ None = sym (served.spelled p o (Live o from None) there shown) ∙ none in
      cc

-- a page that an owner has is current at the front
pub has-current : (bytes : ℕ → List ℕ) (front : ℕ) (states : List PageState) (o : Owner) (b : List ℕ) (c : HasPage bytes front states o b) → IsCurrentAt front states c.page
has-current bytes front states o b c = record { state = Live o c.from None; there = c.there; current = le-leb c.from front c.began }
