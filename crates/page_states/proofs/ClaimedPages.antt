-- Pages that are claimed together.
use Rattle.std.proofs.Common.{◌≡◌, ◌⊎◌, inl, inr, ℕ, zero, suc, ◌+◌, ◌<◌, List, [], ◌∷◌, false, Some, refl, sym, ◌∙◌, ap, subst, length, length-take, take, arith}
use Rattle.std.specs.Prelude.{slice_get, slice_set, slice_index, min}
use Rattle.std.proofs.lemmas.Option.{slice_get_within}
use Rattle.std.proofs.lemmas.Bool.{cases_eq}
use Rattle.std.proofs.lemmas.List.{length-set, get_or-take}
use Rattle.page_states.specs.declared.page_state.PageState.{PageState}
use Rattle.page_states.specs.declared.page_state.PageState.TheVariants.{Free, Claimed, Live}
use Rattle.grid_types.specs.declared.owner.Owner.{Owner}
use Rattle.page_states.specs.States.{shows}
use Rattle.page_states.specs.Effects.{free_from, free_pages, claim_all}
use Rattle.page_states.specs.Laws.{Keeps, ClaimKeeps, ClaimedPagesAreTheSeats}
use Rattle.page_states.proofs.Lists.{get_set_same, get_set_other}
use Rattle.page_states.proofs.Shown.{same_keeps, set_same}

-- a page after a claim of one: it is the one, or has the state that it had
one_claimed : (seat p q : ℕ) (x : PageState) (states : List PageState) → slice_get states p ≡ Some x → (slice_get (slice_set states q (Claimed seat)) p ≡ Some (Claimed seat)) ⊎ (slice_get (slice_set states q (Claimed seat)) p ≡ Some x)
one_claimed seat p q x states has = elim (cases_eq p q) [
  | inl e ↦
      let here : slice_get (slice_set states p (Claimed seat)) p ≡ Some (Claimed seat) = get_set_same states p (Claimed seat) (slice_get_within states p x has) in
      inl (subst (λ (k : ℕ). slice_get (slice_set states k (Claimed seat)) p ≡ Some (Claimed seat)) e here)
  | inr n ↦ inr (get_set_other states q p (Claimed seat) n ∙ has)
]

-- a page of the seat stays so while others are claimed
claimed_stays : (seat p : ℕ) (pages : List ℕ) (states : List PageState) → slice_get states p ≡ Some (Claimed seat) → slice_get (claim_all seat pages states) p ≡ Some (Claimed seat)
claimed_stays seat p [] states has = has
claimed_stays seat p (q ∷ pages) states has = claimed_stays seat p pages (slice_set states q (Claimed seat)) (elim (one_claimed seat p q (Claimed seat) states has) [ inl e ↦ e | inr e ↦ e ])

-- each page of the list is the seat's
claimed_at : (seat i : ℕ) (pages : List ℕ) (states : List PageState) → i < length pages → ((j : ℕ) → j < length pages → slice_index pages j < length states) → slice_get (claim_all seat pages states) (slice_index pages i) ≡ Some (Claimed seat)
claimed_at seat i [] states inside within = absurd (omega arith)
claimed_at seat zero (q ∷ pages) states inside within = claimed_stays seat q pages (slice_set states q (Claimed seat)) (get_set_same states q (Claimed seat) (within 0 (omega arith)))
claimed_at seat (suc i) (q ∷ pages) states inside within =
    let same : length (slice_set states q (Claimed seat)) ≡ length states = length-set states q (Claimed seat) in
    claimed_at seat i pages (slice_set states q (Claimed seat)) (omega arith) (λ j low. let old : slice_index pages j < length states = within (suc j) (omega (arith, low)) in omega (arith, old, same))

-- each number of the free pages is that of a free page
free_at : (n i : ℕ) (xs : List PageState) → i < length (free_from n xs) → (k : ℕ) × (slice_index (free_from n xs) i ≡ n + k) × (slice_get xs k ≡ Some Free)
free_at n i [] inside = absurd (omega arith)
free_at n zero (Free ∷ xs) inside = (0, omega arith, refl)
free_at n (suc i) (Free ∷ xs) inside = let rest = free_at (n + 1) i xs (omega arith) in (suc rest.0, omega (arith, rest.1), rest.2)
free_at n i (Claimed s ∷ xs) inside = let rest = free_at (n + 1) i xs inside in (suc rest.0, omega (arith, rest.1), rest.2)
free_at n i (Live o from to ∷ xs) inside = let rest = free_at (n + 1) i xs inside in (suc rest.0, omega (arith, rest.1), rest.2)

-- so is each of the first ones
taken_free : (count i : ℕ) (states : List PageState) → i < length (take count (free_pages states)) → slice_get states (slice_index (take count (free_pages states)) i) ≡ Some Free
taken_free count i states inside =
    let long : length (take count (free_pages states)) ≡ min count (length (free_pages states)) = length-take count (free_pages states) in
    let low : i < count = omega (arith, long, inside) in
    let within : i < length (free_pages states) = omega (arith, long, inside) in
    let at = free_at 0 i states within in
    let is : slice_index (take count (free_pages states)) i ≡ slice_index (free_pages states) i = get_or-take count (free_pages states) i 0 low in
    let number : slice_index (take count (free_pages states)) i ≡ at.0 = omega (arith, is, at.1) in
    ap (slice_get states) number ∙ at.2

pub claimed_pages_are_the_seats : ClaimedPagesAreTheSeats
claimed_pages_are_the_seats seat count i pages states is inside =
    let each : (j : ℕ) → j < length pages → slice_index pages j < length states =
    λ j low. slice_get_within states (slice_index pages j) Free
    (subst (λ (ps : List ℕ). slice_get states (slice_index ps j) ≡ Some Free) (sym is) (taken_free count j states (subst (λ (ps : List ℕ). j < length ps) is low))) in
    claimed_at seat i pages states inside each

-- the page has a state that shows no owner
abbrev pub IsUnseen : List PageState → ℕ → Type 0
IsUnseen states p = (x : PageState) × (slice_get states p ≡ Some x) × ((o : Owner) (place : ℕ) → shows o place x ≡ false)

-- claims of pages that show no owner keep each place
claims_keep : (seat place : ℕ) (pages : List ℕ) (states : List PageState) → ((j : ℕ) → j < length pages → IsUnseen states (slice_index pages j)) → Keeps place states (claim_all seat pages states)
claims_keep seat place [] states each content bytes served = served
claims_keep seat place (q ∷ pages) states each content bytes served =
    let first = each 0 (omega arith) in
    claims_keep seat place pages (slice_set states q (Claimed seat)) (λ j low. after j (each (suc j) (omega (arith, low)))) content bytes
    (same_keeps place states (slice_set states q (Claimed seat)) (λ o r. set_same (shows o place) states q first.0 (Claimed seat) r first.1 (sym (first.2 o place))) content bytes served)
  where
    after : (j : ℕ) → IsUnseen states (slice_index pages j) → IsUnseen (slice_set states q (Claimed seat)) (slice_index pages j)
    after j was = elim (one_claimed seat (slice_index pages j) q was.0 states was.1) [
      | inl e ↦ (Claimed seat, e, λ o k. refl)
      | inr e ↦ (was.0, e, was.2)
    ]

-- the claim of one free page keeps each place
pub free_claim_keeps : (seat p place : ℕ) (states : List PageState) → slice_get states p ≡ Some Free → Keeps place states (slice_set states p (Claimed seat))
free_claim_keeps seat p place states free = same_keeps place states (slice_set states p (Claimed seat)) (λ o r. set_same (shows o place) states p Free (Claimed seat) r free refl)

pub claim_keeps_places : ClaimKeeps
claim_keeps_places seat count place states = claims_keep seat place (take count (free_pages states)) states (λ j low. (Free, taken_free count j states low, λ o k. refl))
