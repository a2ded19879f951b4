-- No page of a half is bad whose gates are spelled, and whose open slots have batches.
use Rattle.std.proofs.Common.{◌≡◌, ◌<◌, ◌==◌, inl, inr, ℕ, List, [], filter, length, get_or, slice_index, Some, Contains, sym, ap, subst, ◌∙◌, arith}
use Rattle.std.proofs.lemmas.List.Elements.{Contains-append_left, Contains-append_right}
use Rattle.std.proofs.lemmas.Option.{slice_get-get_or}
use Rattle.grid_types.specs.declared.shape.Shape.{Shape}
use Rattle.grid_types.specs.Pages.{page_of}
use Rattle.grid_types.specs.Shapes as places
use Rattle.grid_types.proofs.Places.{one-of-two}
use Rattle.grid_model.specs.Lists.{below}
use Rattle.grid_model.specs.Spellings.{LoggedBatch}
use Rattle.grid_model.specs.Images.{HasGatesOf, HasBatches, open_slots, open_slots_of, Found, IsFound}
use Rattle.grid_model.proofs.Members.{contains-filter, contains-range, contains-map}
use Rattle.journal_slots.specs.Scans.{IsFirstBadPage, SpellsSome}
use Rattle.journal_slots.proofs.OneScan.{the_gates}

-- an open slot of a half is among the open slots
opened_there : (gates : List ℕ) (half slot : ℕ) → slot < length gates → slice_index gates slot ≡ 1 → Contains (open_slots_of gates half) (half, slot)
opened_there gates half slot lt opened =
    contains-map (λ i. (half, i)) (filter (λ i. slice_index gates i == 1) (below (length gates))) slot
    (contains-filter (λ i. slice_index gates i == 1) (below (length gates)) slot (contains-range 0 (length gates) slot (omega arith) (omega (arith, lt))) (ap (λ x. x == 1) opened))

module _ {K : ℕ} (s : Shape) (image : List ℕ) where
  -- among slots that have batches each spells one
  spells_some : (slots : List (ℕ × ℕ)) (bs : List (LoggedBatch K)) (slot : ℕ × ℕ) → HasBatches s image slots bs → Contains slots slot → SpellsSome K (page_of (places.slot_page s slot.0 slot.1) image)
  spells_some slots bs slot has there =
      let i = there.0 in
      let none : LoggedBatch K = record { session = 0; first = 0; updates = [] } in
      let b = get_or bs i none in
      record {
        batch = b;
        spelled = has.each i slot b (slice_get-get_or slots i slot there.1 ∙ ap Some there.2) (slice_get-get_or bs i none (omega (arith, there.1, has.count)));
      }

  -- no page of a half is bad whose gates are spelled, and whose open slots are among slots that have batches
  pub good_half : (half : ℕ) (gates : List ℕ) (slots : List (ℕ × ℕ)) (bs : List (LoggedBatch K)) → HasGatesOf s image half gates → HasBatches s image slots bs
      → ((slot : ℕ × ℕ) → Contains (open_slots_of gates half) slot → Contains slots slot) → (page : ℕ) → IsFirstBadPage K s image half page → ⊥
  good_half half gates slots bs spelled has among page (inl bad) = bad.none gates spelled
  good_half half gates slots bs spelled has among page (inr bad) =
      let same : bad.gates ≡ gates = the_gates s image half bad.gates bad.spelled ∙ sym (the_gates s image half gates spelled) in
      let slot = bad.first.slot in
      let there : Contains (open_slots_of bad.gates half) (half, slot) = opened_there bad.gates half slot (omega (arith, bad.first.inside, bad.spelled.count)) bad.first.opened in
      let some = spells_some slots bs (half, slot) has (among (half, slot) (subst (λ gs. Contains (open_slots_of gs half) (half, slot)) same there)) in
      bad.first.none (subst (λ p. SpellsSome K (page_of p image)) (sym bad.first.page_is) some)

-- no page of a half is bad where all that a survey looks for is found
pub found_good : {K : ℕ} (image : List ℕ) (f : Found K) (n : ℕ) → IsFound image f n → (half : ℕ) → half < 2 → (page : ℕ) → IsFirstBadPage K f.shape image half page → ⊥
found_good image f n is half two = elim (one-of-two half two) [
  | inl first ↦ rw first (good_half f.shape image 0 f.gates.first (open_slots f.gates) f.batches is.gates.first is.batches (λ slot there. Contains-append_left (open_slots_of f.gates.first 0) (open_slots_of f.gates.second 1) slot there))
  | inr second ↦ rw second (good_half f.shape image 1 f.gates.second (open_slots f.gates) f.batches is.gates.second is.batches (λ slot there. Contains-append_right (open_slots_of f.gates.first 0) (open_slots_of f.gates.second 1) slot there))
]
