-- There are as many current pages as owners.
use Rattle.std.proofs.Common.{◌≡◌, ℕ, suc, ◌+◌, ◌<◌, ◌≤◌, List, [], ◌∷◌, Bool, true, false, ◌&&◌, cond, Option, Some, None, refl, sym, ◌∙◌, ap, map, length, get_or, arith}
use Rattle.std.specs.Prelude.{slice_get, is_some, nat_le}
use Rattle.std.specs.List.{count_by, sum_by}
use Rattle.std.proofs.lemmas.Bool.{le-leb, le-ltb}
use Rattle.std.proofs.lemmas.List.Sums.{sum_by-cons, get_or-le-sum_by}
use Rattle.grid_types.specs.declared.owner.Owner.{Owner}
use Rattle.page_states.specs.declared.page_state.PageState.{PageState}
use Rattle.page_states.specs.declared.page_state.PageState.TheVariants.{Free, Claimed, Live}
use Rattle.page_states.specs.Counts.{once}
use Rattle.grid_types.specs.Owners.{same_owner}
use Rattle.page_states.specs.States.{is_free, is_claimed, is_current, shows}
use Rattle.page_states.specs.Laws.{Serves, Settled, CurrentPagesAreOwners, FreePagesAreCounted, is_of_root}
use Rattle.page_states.proofs.Endings.{same_owner_refl}
use Rattle.page_states.specs.Effects.{freed, is_gone}
use Rattle.page_states.proofs.Shown.{and_false}
use Rattle.page_states.proofs.CountedPages.{sweep_leaves_the_root}

-- a sum of ones is the length
sum_ones : (f : Owner → ℕ) (os : List Owner) → ((i : ℕ) (d : Owner) → i < length os → f (get_or os i d) ≡ 1) → sum_by f os ≡ length os
sum_ones f [] ones = refl
sum_ones f (o ∷ os) ones =
    let first : f o ≡ 1 = ones 0 o (omega arith) in
    let rest : sum_by f os ≡ length os = sum_ones f os (λ i d low. ones (suc i) d (omega (arith, low))) in
    let sum : sum_by f (o ∷ os) ≡ f o + sum_by f os = sum_by-cons f o os in
    omega (arith, first, rest, sum)

sum_zeros : (f : Owner → ℕ) (os : List Owner) → ((o : Owner) → f o ≡ 0) → sum_by f os ≡ 0
sum_zeros f [] zeros = refl
sum_zeros f (o ∷ os) zeros =
    let first : f o ≡ 0 = zeros o in
    let rest : sum_by f os ≡ 0 = sum_zeros f os zeros in
    let sum : sum_by f (o ∷ os) ≡ f o + sum_by f os = sum_by-cons f o os in
    omega (arith, first, rest, sum)

sum_both : (f g h : Owner → ℕ) (os : List Owner) → ((o : Owner) → f o ≡ g o + h o) → sum_by f os ≡ sum_by g os + sum_by h os
sum_both f g h [] both = refl
sum_both f g h (o ∷ os) both =
    let first : f o ≡ g o + h o = both o in
    let rest : sum_by f os ≡ sum_by g os + sum_by h os = sum_both f g h os both in
    let a : sum_by f (o ∷ os) ≡ f o + sum_by f os = sum_by-cons f o os in
    let b : sum_by g (o ∷ os) ≡ g o + sum_by g os = sum_by-cons g o os in
    let d : sum_by h (o ∷ os) ≡ h o + sum_by h os = sum_by-cons h o os in
    omega (arith, first, rest, a, b, d)

-- each page is shown as often as it is current, so all are as often as there are current ones
swapped : (front : ℕ) (owners : List Owner) (states : List PageState) → ((p : ℕ) (x : PageState) → slice_get states p ≡ Some x → sum_by (λ o. once (shows o front) x) owners ≡ once is_current x)
    → sum_by (λ o. count_by (shows o front) states) owners ≡ count_by is_current states
swapped front owners [] each = sum_zeros (λ o. 0) owners (λ o. refl)
swapped front owners (x ∷ xs) each =
    let first : sum_by (λ o. once (shows o front) x) owners ≡ once is_current x = each 0 x refl in
    let rest : sum_by (λ o. count_by (shows o front) xs) owners ≡ count_by is_current xs = swapped front owners xs (λ p y has. each (suc p) y has) in
    let split : sum_by (λ o. count_by (shows o front) (x ∷ xs)) owners ≡ sum_by (λ o. once (shows o front) x) owners + sum_by (λ o. count_by (shows o front) xs) owners =
    sum_both (λ o. count_by (shows o front) (x ∷ xs)) (λ o. once (shows o front) x) (λ o. count_by (shows o front) xs) owners (λ o. sum_by-cons (once (shows o front)) x xs) in
    let sum : count_by is_current (x ∷ xs) ≡ once is_current x + count_by is_current xs = sum_by-cons (once is_current) x xs in
    omega (arith, first, rest, split, sum)

sum_same : (f g : Owner → ℕ) (os : List Owner) → ((o : Owner) → f o ≡ g o) → sum_by f os ≡ sum_by g os
sum_same f g [] same = refl
sum_same f g (o ∷ os) same =
    let first : f o ≡ g o = same o in
    let rest : sum_by f os ≡ sum_by g os = sum_same f g os same in
    let a : sum_by f (o ∷ os) ≡ f o + sum_by f os = sum_by-cons f o os in
    let b : sum_by g (o ∷ os) ≡ g o + sum_by g os = sum_by-cons g o os in
    omega (arith, first, rest, a, b)

small : (b : Bool) → cond {A = ℕ} b 1 0 ≤ 1
small true = omega arith
small false = omega arith

module _ (content : Owner → Option (List ℕ)) (bytes : ℕ → List ℕ) (front : ℕ) (states : List PageState) (owners : List Owner) (settled : Settled front states) (served : Serves content bytes front states)
    (listed : (o : Owner) → count_by (same_owner o) owners ≡ once is_some (content o)) where
  shown_once : (p : ℕ) (x : PageState) → slice_get states p ≡ Some x → sum_by (λ o. once (shows o front) x) owners ≡ once is_current x
  shown_once p Free has = sum_zeros (λ o. 0) owners (λ o. refl)
  shown_once p (Claimed s) has = sum_zeros (λ o. 0) owners (λ o. refl)
  shown_once p (Live w from (Some to)) has = sum_zeros (λ o. once (shows o front) (Live w from (Some to))) owners (λ o.
      ap (λ (b : Bool). cond {A = ℕ} (same_owner w o && (nat_le from front && b)) 1 0) (le-ltb front to (settled.ended_by p w from to has))
      ∙ ap (λ (b : Bool). cond {A = ℕ} (same_owner w o && b) 1 0) (and_false (nat_le from front))
      ∙ ap (λ (b : Bool). cond {A = ℕ} b 1 0) (and_false (same_owner w o)))
  shown_once p (Live w from None) has =
      let with_current : nat_le from front ≡ true = le-leb from front (settled.began p w from has) in
      let shown : shows w front (Live w from None) ≡ true = (λ i. same_owner_refl w i && with_current i) in
      let exists : content w ≡ Some (bytes p) = served.spelled p w (Live w from None) has shown in
      sum_same (λ o. once (shows o front) (Live w from None)) (λ o. once (same_owner w) o) owners (λ o. plain o (nat_le from front) with_current)
      ∙ listed w ∙ ap (λ (m : Option (List ℕ)). once is_some m) exists
    where
      plain : (o : Owner) (b : Bool) → b ≡ true → cond {A = ℕ} (same_owner w o && b) 1 0 ≡ cond {A = ℕ} (same_owner w o) 1 0
      plain o b e = ap (λ (t : Bool). cond {A = ℕ} (same_owner w o && t) 1 0) e ∙ alike (same_owner w o)
        where
          alike : (t : Bool) → cond {A = ℕ} (t && true) 1 0 ≡ cond {A = ℕ} t 1 0
          alike true = refl
          alike false = refl

  each_once : (i : ℕ) (d : Owner) → i < length owners → count_by (shows (get_or owners i d) front) states ≡ 1
  each_once i d low =
      let o = get_or owners i d in
      let here : once (same_owner (get_or owners i d)) (get_or owners i d) ≤ count_by (same_owner (get_or owners i d)) owners = get_or-le-sum_by (once (same_owner (get_or owners i d))) owners i d low in
      let one : once (same_owner (get_or owners i d)) (get_or owners i d) ≡ 1 = ap (λ (b : Bool). cond {A = ℕ} b 1 0) (same_owner_refl (get_or owners i d)) in
      let is : count_by (same_owner (get_or owners i d)) owners ≡ once is_some (content (get_or owners i d)) = listed (get_or owners i d) in
      let few : once is_some (content (get_or owners i d)) ≤ 1 = small (is_some (content (get_or owners i d))) in
      let counted : count_by (shows (get_or owners i d) front) states ≡ once is_some (content (get_or owners i d)) = served.one (get_or owners i d) in
      omega (arith, here, one, is, few, counted)

pub current_pages_are_owners : CurrentPagesAreOwners
current_pages_are_owners content bytes front states owners settled served listed =
    sym (swapped front owners states (shown_once content bytes front states owners settled served listed))
    ∙ sum_ones (λ o. count_by (shows o front) states) owners (each_once content bytes front states owners settled served listed)

pub free_pages_are_counted : FreePagesAreCounted
free_pages_are_counted content bytes front root states owners settled served listed =
    let all : count_by is_free (map (freed (is_gone (root ∷ []))) states) + count_by is_current states + count_by (is_of_root root) states + count_by is_claimed states ≡ length states = sweep_leaves_the_root root states in
    let owned : count_by is_current states ≡ length owners = current_pages_are_owners content bytes front states owners settled served listed in
    omega (arith, all, owned)
