-- What a place shows, page by page.
use Rattle.std.proofs.Common.{◌≡◌, ◌⊎◌, inl, inr, ℕ, suc, ◌+◌, ◌<◌, ◌≤◌, List, [], ◌∷◌, Bool, true, false, ◌&&◌, cond, Option, Some, None, refl, sym, ◌∙◌, ap, subst, map, arith}
use Rattle.std.specs.Prelude.{◌≢◌, slice_get, slice_set, nat_le}
use Rattle.std.specs.Option.{option_map, option_map_or}
use Rattle.std.specs.List.{count_by}
use Rattle.std.proofs.lemmas.Option.{slice_get-map}
use Rattle.std.proofs.lemmas.Bool.{cases_eq, leb-true, lt-ltb}
use Rattle.std.proofs.lemmas.List.Sums.{sum_by-cons}
use Rattle.grid_types.specs.declared.owner.Owner.{Owner}
use Rattle.page_states.specs.declared.page_state.PageState.{PageState}
use Rattle.page_states.specs.declared.page_state.PageState.TheVariants.{Free, Claimed, Live}
use Rattle.page_states.specs.Counts.{once, once_at}
use Rattle.grid_types.specs.Owners.{same_owner}
use Rattle.page_states.specs.States.{shows}
use Rattle.page_states.specs.Effects.{with_end}
use Rattle.page_states.specs.Laws.{Keeps}
use Rattle.page_states.proofs.Counting.{none_pass, at_some, at_set_same, at_set_other}

pub and_false : (a : Bool) → (a && false) ≡ false
and_false true = refl
and_false false = refl

pub and_true : (a : Bool) → (a && true) ≡ a
and_true true = refl
and_true false = refl

pub second_holds : (a b : Bool) → (a && b) ≡ true → b ≡ true
second_holds true b e = e
second_holds false b e = absurd cc

-- an earlier place is not reached
pub le_no : (a b : ℕ) → b < a → nat_le a b ≡ false
le_no a b low = by (nat_le a b) refl
  where
    by : (t : Bool) → nat_le a b ≡ t → nat_le a b ≡ false
    by false e = e
    by true e = let h : a ≤ b = leb-true a b e in absurd (omega arith)

-- lists that pass at the same indexes have as many that pass
pub count_same : (test : PageState → Bool) (xs ys : List PageState) → ((q : ℕ) → once_at test ys q ≡ once_at test xs q) → count_by test ys ≡ count_by test xs
count_same test [] ys same = none_pass test ys same
count_same test (x ∷ xs) [] same = sym (none_pass test (x ∷ xs) (λ q. sym (same q)))
count_same test (x ∷ xs) (y ∷ ys) same =
    let first : once test y ≡ once test x = same 0 in
    let rest : count_by test ys ≡ count_by test xs = count_same test xs ys (λ q. same (suc q)) in
    sum_by-cons (once test) y ys ∙ (λ i. first i + rest i) ∙ sym (sum_by-cons (once test) x xs)

once_means : (b : Bool) → cond {A = ℕ} b 1 0 ≡ 1 → b ≡ true
once_means true e = refl
once_means false e = absurd (omega arith)

-- an index that passes has an element that does
pub passes_at : (test : PageState → Bool) (xs : List PageState) (p : ℕ) → once_at test xs p ≡ 1 → (x : PageState) × (slice_get xs p ≡ Some x) × (test x ≡ true)
passes_at test xs p e = by (slice_get xs p) refl
  where
    by : (o : Option PageState) → slice_get xs p ≡ o → (x : PageState) × (slice_get xs p ≡ Some x) × (test x ≡ true)
    by None is = let no : once_at test xs p ≡ 0 = ap (λ (o : Option PageState). option_map_or (once test) o 0) is in absurd (omega arith)
    by (Some x) is = (x, is, once_means (test x) (sym (at_some test xs p x is) ∙ e))

-- each page shows the same of each owner at the place
abbrev pub SameShown : ℕ → List PageState → List PageState → Type 0
SameShown place old new = (o : Owner) (q : ℕ) → once_at (shows o place) new q ≡ once_at (shows o place) old q

-- then what is served stays so
pub same_keeps : (place : ℕ) (old new : List PageState) → SameShown place old new → Keeps place old new
same_keeps place old new same content bytes served = record {
  one = λ o. count_same (shows o place) old new (same o) ∙ served.one o;
  spelled = λ p o x has shown.
      let one : once_at (shows o place) new p ≡ 1 = at_some (shows o place) new p x has ∙ ap (λ (b : Bool). cond b 1 0) shown in
      let was = passes_at (shows o place) old p (sym (same o p) ∙ one) in
      served.spelled p o was.0 was.1 was.2;
}

-- a change of each element that the test cannot tell
pub map_same : (test : PageState → Bool) (f : PageState → PageState) (xs : List PageState) (q : ℕ) → ((x : PageState) → test (f x) ≡ test x) → once_at test (map f xs) q ≡ once_at test xs q
map_same test f xs q same = ap (λ (o : Option PageState). option_map_or (once test) o 0) (slice_get-map f xs q) ∙ by (slice_get xs q)
  where
    by : (o : Option PageState) → option_map_or (once test) (option_map f o) 0 ≡ option_map_or (once test) o 0
    by None = refl
    by (Some x) = ap (λ (b : Bool). cond b 1 0) (same x)

-- a change of one element that the test cannot tell
pub set_same : (test : PageState → Bool) (xs : List PageState) (p : ℕ) (x y : PageState) (q : ℕ) → slice_get xs p ≡ Some x → test y ≡ test x → once_at test (slice_set xs p y) q ≡ once_at test xs q
set_same test xs p x y q has same = by (cases_eq q p)
  where
    by : (q ≡ p) ⊎ (q ≢ p) → once_at test (slice_set xs p y) q ≡ once_at test xs q
    by (inl e) =
        let here : once_at test (slice_set xs p y) p ≡ once_at test xs p = at_set_same test xs p x y has ∙ ap (λ (b : Bool). cond b 1 0) same ∙ sym (at_some test xs p x has) in
        subst (λ (k : ℕ). once_at test (slice_set xs p y) k ≡ once_at test xs k) (sym e) here
    by (inr n) = at_set_other test xs p q y n

-- the end of a page is not seen from an earlier place
pub ended_before : (o owner : Owner) (at place : ℕ) → place < at → (x : PageState) → shows o place (with_end owner at x) ≡ shows o place x
ended_before o owner at place low Free = refl
ended_before o owner at place low (Claimed s) = refl
ended_before o owner at place low (Live w from (Some to)) = refl
ended_before o owner at place low (Live w from None) = by (same_owner w owner) refl
  where
    by : (b : Bool) → same_owner w owner ≡ b → shows o place (cond (same_owner w owner) (Live w from (Some at)) (Live w from None)) ≡ shows o place (Live w from None)
    by false e = ap (λ (b : Bool). shows o place (cond b (Live w from (Some at)) (Live w from None))) e
    by true e =
        ap (λ (b : Bool). shows o place (cond b (Live w from (Some at)) (Live w from None))) e
        ∙ ap (λ (b : Bool). same_owner w o && (nat_le from place && b)) (lt-ltb place at low)
        ∙ ap (λ (b : Bool). same_owner w o && b) (and_true (nat_le from place))

-- a page that begins later is not seen
pub later_unseen : (o owner : Owner) (at place : ℕ) → place < at → shows o place (Live owner at None) ≡ false
later_unseen o owner at place low = ap (λ (b : Bool). same_owner owner o && b) (le_no at place low) ∙ and_false (same_owner owner o)
