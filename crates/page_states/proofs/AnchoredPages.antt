-- The pages of an anchor, and where they are written down.
use Rattle.std.proofs.Common.{◌≡◌, inl, inr, ℕ, ◌+◌, ◌<◌, List, [], ◌∷◌, ◌++◌, Bool, true, false, ◌&&◌, Option, Some, None, refl, sym, ◌∙◌, ap, subst, length, get_or, arith}
use Rattle.std.specs.Prelude.{◌≢◌, ◌==◌, slice_get, slice_set, slice_index}
use Rattle.std.specs.List.{swap_remove}
use Rattle.std.proofs.lemmas.Bool.{cases_eq}
use Rattle.std.proofs.lemmas.Option.{same_Some, get_or_from_slice_get}
use Rattle.std.proofs.lemmas.List.{length-set}
use Rattle.grid_types.specs.declared.owner.Owner.{Owner}
use Rattle.grid_types.specs.Owners.{same_owner}
use Rattle.page_states.specs.declared.page_state.PageState.{PageState}
use Rattle.page_states.specs.declared.page_state.PageState.TheVariants.{Free, Claimed, Live}
use Rattle.page_states.specs.declared.anchor.Anchor.{Anchor}
use Rattle.page_states.specs.Counts.{times, once}
use Rattle.page_states.specs.States.{is_current_at, is_kept, shows, slot}
use Rattle.page_states.specs.Effects.{is_gone, IsNotShown, NoneFrom}
use Rattle.page_states.specs.Sound.{is_held, AreHeld, AreAtSlots, CanHold, ShowedNoneOf, IsAnchorAmong}
use Rattle.page_states.specs.Tables.{IsAnchor, IsNewAnchor}
use Rattle.page_states.proofs.Lists.{get_set, get_set_same, get_set_other}
use Rattle.page_states.proofs.Counting.{once_other, taken_out}
use Rattle.page_states.proofs.Endings.{same_owner_refl, same_owner_is}
use Rattle.page_states.proofs.Frees.{times_at, gone_no}
use Rattle.page_states.proofs.Keeping.{slot_tells}
use Rattle.page_states.proofs.KeptPlaces.{kept_at, shown_is_current}
use Rattle.page_states.proofs.Olds.{both, pushed}

-- a page that is an owner's at a place has this owner
shown_live : (owner : Owner) (place : ℕ) (x : PageState) → shows owner place x ≡ true → (from : ℕ) × (to : Option ℕ) × (x ≡ Live owner from to)
shown_live owner place Free e = absurd cc
shown_live owner place (Claimed s) e = absurd cc
shown_live owner place (Live o from to) e = (from, to, ap (λ (z : Owner). Live z from to) (same_owner_is o owner (first_holds (same_owner o owner) (is_current_at place (Live o from to)) e)))
  where
    first_holds : (a b : Bool) → (a && b) ≡ true → a ≡ true
    first_holds true b h = refl
    first_holds false b h = absurd cc

-- a page that is current at a place is its owner's there
current_shown : (owner : Owner) (place from : ℕ) (to : Option ℕ) → is_current_at place (Live owner from to) ≡ true → shows owner place (Live owner from to) ≡ true
current_shown owner place from to e = ap (λ (b : Bool). b && is_current_at place (Live owner from to)) (same_owner_refl owner) ∙ e

-- a page that is not in the list may change
held_stays : (place : Option ℕ) (list : List ℕ) (states : List PageState) (p : ℕ) (y : PageState) → times p list ≡ 0 → AreHeld place list states → AreHeld place list (slice_set states p y)
held_stays place list states p y none old q x some has = elim (get_set states p q y x has) [
  | inl w ↦
      let no : times q list ≡ 0 = ap (λ (k : ℕ). times k list) w.0 ∙ none in
      absurd (omega (arith, some, no))
  | inr w ↦ old q x some w.1
]

written_stays : (by_owner : List (Option ℕ)) (list : List ℕ) (states : List PageState) (p : ℕ) (y : PageState) → times p list ≡ 0 → AreAtSlots by_owner list states → AreAtSlots by_owner list (slice_set states p y)
written_stays by_owner list states p y none old q o from to some has = elim (get_set states p q y (Live o from to) has) [
  | inl w ↦
      let no : times q list ≡ 0 = ap (λ (k : ℕ). times k list) w.0 ∙ none in
      absurd (omega (arith, some, no))
  | inr w ↦ old q o from to some w.1
]

-- a page that is not the anchor's may change
anchor_stays : (states : List PageState) (anchor : Anchor) (p : ℕ) (y : PageState) → times p anchor.pages.items ≡ 0 → IsAnchor states anchor → IsAnchor (slice_set states p y) anchor
anchor_stays states anchor p y none old = record {
  held = held_stays anchor.place anchor.pages.items states p y none old.held;
  written = written_stays anchor.by_owner.items anchor.pages.items states p y none old.written;
  slots = omega (arith, length-set states p y, old.slots);
  fit = omega (arith, length-set states p y, old.fit);
}

-- a page that is neither anchor's may change: the first is as it was
pub first_stays : (states : List PageState) (a b : Anchor) (p : ℕ) (y : PageState) → times p (a.pages.items ++ b.pages.items) ≡ 0 → IsAnchor states a → IsAnchor (slice_set states p y) a
first_stays states a b p y none old =
    let sum : times p (a.pages.items ++ b.pages.items) ≡ times p a.pages.items + times p b.pages.items = both p a.pages.items b.pages.items in
    anchor_stays states a p y (omega (arith, none, sum)) old

-- and so is the second
pub second_stays : (states : List PageState) (a b : Anchor) (p : ℕ) (y : PageState) → times p (a.pages.items ++ b.pages.items) ≡ 0 → IsAnchor states b → IsAnchor (slice_set states p y) b
second_stays states a b p y none old =
    let sum : times p (a.pages.items ++ b.pages.items) ≡ times p a.pages.items + times p b.pages.items = both p a.pages.items b.pages.items in
    anchor_stays states b p y (omega (arith, none, sum)) old

-- what is in a list with one page more is that page or was there before
in_more : (q p : ℕ) (list : List ℕ) → q ≢ p → 0 < times q (list ++ p ∷ []) → 0 < times q list
in_more q p list n some =
    let more : times q (list ++ p ∷ []) ≡ times q list + once (λ z. z == q) p = pushed q p list in
    let none : once (λ z. z == q) p ≡ 0 = once_other p q n in
    omega (arith, some, more, none)

-- a page that can be the anchor's is held
pub held_more : (owner : Owner) (place : ℕ) (states : List PageState) (by_owner : List (Option ℕ)) (p : ℕ) (list : List ℕ) → CanHold owner place states by_owner p → AreHeld (Some place) list states → AreHeld (Some place) (list ++ p ∷ []) states
held_more owner place states by_owner p list can old q x some has = elim (cases_eq q p) [
  | inl e ↦
      let here : x ≡ can.shown.state = same_Some x can.shown.state (sym has ∙ ap (slice_get states) e ∙ can.shown.there) in
      ap (is_current_at place) here ∙ shown_is_current owner place can.shown.state can.shown.shown
  | inr n ↦ old q x (in_more q p list n some) has
]

-- and is written down
pub written_more : (owner : Owner) (place : ℕ) (states : List PageState) (by_owner : List (Option ℕ)) (p : ℕ) (list : List ℕ) → CanHold owner place states by_owner p → AreHeld (Some place) list states
    → AreAtSlots by_owner list states → AreAtSlots (slice_set by_owner (slot owner) (Some p)) (list ++ p ∷ []) states
written_more owner place states by_owner p list can held old q o from to some has = elim (cases_eq q p) [
  | inl e ↦
      let live = shown_live owner place can.shown.state can.shown.shown in
      let here : Live o from to ≡ Live owner live.0 live.1 = same_Some (Live o from to) (Live owner live.0 live.1) (sym has ∙ ap (slice_get states) e ∙ can.shown.there ∙ ap (λ (z : PageState). Some z) live.2) in
      let one : o ≡ owner = cc in
      ap (λ (z : Owner). slice_get (slice_set by_owner (slot owner) (Some p)) (slot z)) one ∙ get_set_same by_owner (slot owner) (Some p) can.room.within ∙ ap (λ (k : ℕ). Some (Some k)) (sym e)
  | inr n ↦
      let before : 0 < times q list = in_more q p list n some in
      let was : slice_get by_owner (slot o) ≡ Some (Some q) = old q o from to before has in
      elim (cases_eq (slot o) (slot owner)) [
        | inl s ↦
            let one : o ≡ owner = slot_tells o owner s in
            let there : slice_get states q ≡ Some (Live owner from to) = has ∙ ap (λ (z : Owner). Some (Live z from to)) one in
            let current : is_current_at place (Live owner from to) ≡ true = held q (Live owner from to) before there in
            let at : slice_get by_owner (slot owner) ≡ Some (Some q) = ap (slice_get by_owner) (sym s) ∙ was in
            absurd (n (can.room.alone q at (record { state = Live owner from to; there = there; shown = current_shown owner place from to current })))
        | inr d ↦ get_set_other by_owner (slot owner) (slot o) (Some p) d ∙ was
      ]
]

-- what is in a list with one page less was there before
in_less : (list : List ℕ) (i d q : ℕ) → i < length list → 0 < times q (swap_remove list i d) → 0 < times q list
in_less list i d q inside some =
    let out : times q (swap_remove list i d) + once (λ z. z == q) (get_or list i d) ≡ times q list = taken_out list i d (get_or list i d) q inside refl in
    omega (arith, some, out)

-- one page less is held
pub held_less : (place : Option ℕ) (list : List ℕ) (states : List PageState) (i d : ℕ) → i < length list → AreHeld place list states → AreHeld place (swap_remove list i d) states
held_less place list states i d inside old q x some has = old q x (in_less list i d q inside some) has

-- and written down
pub written_less : (by_owner : List (Option ℕ)) (list : List ℕ) (states : List PageState) (i d : ℕ) → i < length list → AreAtSlots by_owner list states → AreAtSlots by_owner (swap_remove list i d) states
written_less by_owner list states i d inside old q o from to some has = old q o from to (in_less list i d q inside some) has

-- what is read at an owner's slot is what is written down there
pub written_is : (by_owner : List (Option ℕ)) (owner : Owner) (k : ℕ) (e : Option ℕ) (q : ℕ) → k ≡ slot owner → e ≡ get_or by_owner k e → slice_get by_owner (slot owner) ≡ Some (Some q) → e ≡ Some q
written_is by_owner owner k e q at is has = is ∙ get_or_from_slice_get by_owner k (Some q) e (ap (slice_get by_owner) at ∙ has)

-- one page is not shown, and so not the same one
pub written_same : (owner : Owner) (place : ℕ) (states : List PageState) (p q : ℕ) → Some p ≡ Some q → IsNotShown owner place states p → IsNotShown owner place states q
written_same owner place states p q is none = subst (λ (k : ℕ). IsNotShown owner place states k) (same_Some p q is) none

-- an anchor without pages is one of any states for which it has room
pub new_anchor : (states : List PageState) (pages : ℕ) (anchor : Anchor) → length states ≡ pages → IsNewAnchor pages anchor → IsAnchor states anchor
new_anchor states pages anchor long new = record {
  held = λ p x some has. absurd (omega (arith, some, empty p));
  written = λ p o from to some has. absurd (omega (arith, some, empty p));
  slots = omega (arith, long, new.slots);
  fit = omega (arith, long, new.fit);
}
  where
    empty : (p : ℕ) → times p anchor.pages.items ≡ 0
    empty p = ap (times p) new.none

-- where what is written down for an owner is not the owner's at a place, no page of the list is
pub none_written : (owner : Owner) (place : ℕ) (states : List PageState) (by_owner : List (Option ℕ)) (list : List ℕ) → AreAtSlots by_owner list states
    → ((q : ℕ) → slice_get by_owner (slot owner) ≡ Some (Some q) → IsNotShown owner place states q) → ShowedNoneOf owner place states list
none_written owner place states by_owner list written none j x low within has = by (shows owner place x) refl
  where
    by : (b : Bool) → shows owner place x ≡ b → shows owner place x ≡ false
    by false e = e
    by true e =
        let live = shown_live owner place x e in
        let there : slice_get states (slice_index list j) ≡ Some (Live owner live.0 live.1) = has ∙ ap (λ (z : PageState). Some z) live.2 in
        none (slice_index list j) (written (slice_index list j) owner live.0 live.1 (times_at list j within) there) x has

-- a page that is held by an anchor among the places is kept
held_is_kept : (places : List ℕ) (place : Option ℕ) (x : PageState) → IsAnchorAmong places place → is_held place x ≡ true → is_kept places x ≡ true
held_is_kept places None x among e = absurd cc
held_is_kept places (Some place) x among e = kept_at places place among.0 x among.1 among.2 e

-- where the anchor is among the places, none of its pages is gone
pub held_stay : (places : List ℕ) (place : Option ℕ) (list : List ℕ) (states : List PageState) → IsAnchorAmong places place → AreHeld place list states → NoneFrom (is_gone places) states list 0
held_stay places place list states among held j x low within has =
    gone_no places x (held_is_kept places place x among (held (slice_index list j) x (times_at list j within) has))
