-- The page of an owner: where one is shown, where none is, and what it reads as.
use Rattle.std.proofs.Common.{◌≡◌, ◌≤◌, ◌||◌, ◌+◌, ℕ, zero, suc, Bool, true, false, cond, List, [], ◌∷◌, Option, Some, None, refl, sym, ap, ◌∙◌, arith, true≢false}
use Rattle.std.specs.Prelude.{slice_get}
use Rattle.std.specs.Option.{option_map}
use Rattle.std.specs.List.{count_by, list_any}
use Rattle.std.proofs.lemmas.List.Sums.{sum_by-cons}
use Rattle.std.proofs.lemmas.Option.{same_Some}
use Rattle.grid_types.specs.declared.owner.Owner.{Owner}
use Rattle.page_states.specs.declared.page_state.PageState.{PageState}
use Rattle.page_states.specs.Counts.{once}
use Rattle.page_states.specs.States.{shows}
use Rattle.file_state.proofs.Shown.{any_there, counted}
use Rattle.grid_file.specs.Pages.{first_shown}

module _ (o : Owner) (place : ℕ) where
  -- where no page is shown there is none
  pub none_first : (xs : List PageState) → list_any (shows o place) xs ≡ false → first_shown o place xs ≡ None
  none_first [] e = refl
  none_first (x ∷ xs) e = by (shows o place x) e (none_first xs)
    where
      by : (b : Bool) → (b || list_any (shows o place) xs) ≡ false → (list_any (shows o place) xs ≡ false → first_shown o place xs ≡ None) → cond b (Some 0) (option_map suc (first_shown o place xs)) ≡ None
      by true is rest = absurd (true≢false is)
      by false is rest = ap (option_map suc) (rest is)

  -- where one at most is shown, that is the first
  pub shown_first : (xs : List PageState) (p : ℕ) (x : PageState) → slice_get xs p ≡ Some x → shows o place x ≡ true → count_by (shows o place) xs ≤ 1 → first_shown o place xs ≡ Some p
  shown_first [] p x has shown few = absurd (cc)
  shown_first (y ∷ ys) zero x has shown few = ap (λ (b : Bool). cond b (Some 0) (option_map suc (first_shown o place ys))) (ap (shows o place) (same_Some y x has) ∙ shown)
  shown_first (y ∷ ys) (suc p) x has shown few =
      let sum : count_by (shows o place) (y ∷ ys) ≡ once (shows o place) y + count_by (shows o place) ys = sum_by-cons (once (shows o place)) y ys in
      let rest : count_by (shows o place) ys ≡ 1 = counted (shows o place) ys (omega (arith, sum, few)) ∙ ap (λ (b : Bool). cond {A = ℕ} b 1 0) (any_there (shows o place) ys p x has shown) in
      by (shows o place y) refl (omega (arith, sum, few, rest)) ∙ ap (option_map suc) (shown_first ys p x has shown (omega (arith, rest)))
    where
      by : (b : Bool) → shows o place y ≡ b → once (shows o place) y ≤ 0 → first_shown o place (y ∷ ys) ≡ option_map suc (first_shown o place ys)
      by true e none = let one : once (shows o place) y ≡ 1 = ap (λ (b : Bool). cond {A = ℕ} b 1 0) e in absurd (omega (arith, one, none))
      by false e none = ap (λ (b : Bool). cond b (Some 0) (option_map suc (first_shown o place ys))) e

  -- and the first is shown
  pub first_is_shown : (xs : List PageState) (p : ℕ) → first_shown o place xs ≡ Some p → (x : PageState) × (slice_get xs p ≡ Some x) × (shows o place x ≡ true)
  first_is_shown [] p e = absurd (cc)
  first_is_shown (y ∷ ys) p e = by (shows o place y) refl e (first_shown o place ys) refl (first_is_shown ys)
    where
      by : (b : Bool) → shows o place y ≡ b → cond b (Some 0) (option_map suc (first_shown o place ys)) ≡ Some p → (m : Option ℕ) → first_shown o place ys ≡ m
          → ((q : ℕ) → first_shown o place ys ≡ Some q → (x : PageState) × (slice_get ys q ≡ Some x) × (shows o place x ≡ true)) → (x : PageState) × (slice_get (y ∷ ys) p ≡ Some x) × (shows o place x ≡ true)
      by true is at m found rest = (y, ap (slice_get (y ∷ ys)) (sym (same_Some 0 p at)), is)
      by false is at None found rest = let none : None ≡ Some p = sym (ap (option_map suc) found) ∙ at in absurd (cc)
      by false is at (Some q) found rest =
          let behind = rest q found in
          (behind.0, ap (slice_get (y ∷ ys)) (sym (same_Some (suc q) p (sym (ap (option_map suc) found) ∙ at))) ∙ behind.1, behind.2)
