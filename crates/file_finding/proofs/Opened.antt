-- The slots of an image under open gates: each is one up to the last gate of its half, and has its batch there.
use Rattle.std.proofs.Common.{◌≡◌, ◌<◌, ◌≤◌, ◌⊎◌, inl, inr, ◌==◌, ℕ, zero, suc, List, map, length, slice_index, sym, ap, subst, ◌∙◌, IsTrue, arith, eqb-true, eq-eqb}
use Rattle.std.specs.Prelude.{filter, slice_get, Some}
use Rattle.std.specs.Option.{option_map}
use Rattle.std.proofs.lemmas.List.{length-map}
use Rattle.std.proofs.lemmas.Option.{slice_get-map, same_Some}
use Rattle.grid_types.specs.declared.shape.Shape.{Shape}
use Rattle.grid_types.specs.Pages.{page_of}
use Rattle.grid_types.specs.Shapes.{is_shape, slot_page}
use Rattle.grid_model.specs.Lists.{below}
use Rattle.grid_model.specs.Spellings.{LoggedBatch}
use Rattle.grid_model.specs.Images.{Gates, HasGates, HasBatches, SpellsBatch, open_slots, open_slots_of, written_slots, last_gate}
use Rattle.journal_slots.proofs.LastGates.{last_gate_known}
use Rattle.file_images.specs.Kept.{Counting}
use Rattle.file_images.proofs.Elements.{Among, among_at, among_map, from_map, among_left, among_right, from_append, among_filter, from_filter, among_range, from_range}
use Rattle.file_finding.proofs.Slots.{rule_of, placed_batch, placed_there, gates_of, begin_of, placed_half, batch_spelled}

-- a slot up to the last gate of its half, whose gate is 1
pub record IsOpenSlot (gates_on : ℕ → List ℕ) (slot : ℕ × ℕ) : Type 0 where
  pub two : slot.0 < 2
  pub inside : slot.1 < last_gate (gates_on slot.0)
  pub gate : slice_index (gates_on slot.0) slot.1 ≡ 1

split : (i n : ℕ) → (i < n) ⊎ (n ≤ i)
split i n = grind arith

-- a gate that is 1 is one up to the last that is not 0
open_inside : (gs : List ℕ) (i : ℕ) → i < length gs → slice_index gs i ≡ 1 → i < last_gate gs
open_inside gs i lt gate = elim (split i (last_gate gs)) [ inl less ↦ less | inr more ↦ absurd (omega (arith, gate, (last_gate_known gs).behind i more lt)) ]

-- the open slots of a half
from_half : (h : ℕ) (gs : List ℕ) (slot : ℕ × ℕ) → Among slot (open_slots_of gs h) → (slot.0 ≡ h) × (slot.1 < last_gate gs) × (slice_index gs slot.1 ≡ 1)
from_half h gs slot m =
    let x = from_map (λ (i : ℕ). (h, i)) (filter (λ i. slice_index gs i == 1) (below (length gs))) slot m in
    let passed = from_filter (λ i. slice_index gs i == 1) (below (length gs)) x.0 x.1 in
    let gate : slice_index gs x.0 ≡ 1 = eqb-true (slice_index gs x.0) 1 passed.1 in
    let range = from_range 0 (length gs) x.0 passed.0 in
    subst (λ (z : ℕ × ℕ). (z.0 ≡ h) × (z.1 < last_gate gs) × (slice_index gs z.1 ≡ 1)) (sym x.2) (λ j. h, open_inside gs x.0 (omega (arith, range.1)) gate, gate)

into_half : (h : ℕ) (gs : List ℕ) (i : ℕ) → i < last_gate gs → slice_index gs i ≡ 1 → Among (h, i) (open_slots_of gs h)
into_half h gs i lt gate =
    among_map (λ (j : ℕ). (h, j)) i (filter (λ j. slice_index gs j == 1) (below (length gs)))
    (among_filter (λ j. slice_index gs j == 1) i (below (length gs)) (among_range i 0 (length gs) (omega arith) (omega (arith, lt, (last_gate_known gs).few))) (eq-eqb (slice_index gs i) 1 gate))

module _ {K : ℕ} (s : Shape) (image : List ℕ) (gates : Gates) (batches : List (LoggedBatch K)) (lawful : IsTrue (is_shape s)) (has : HasGates s image gates) (written : HasBatches s image (written_slots gates) batches) where
  abbrev gates_on : ℕ → List ℕ
  gates_on = gates_of s image gates batches lawful has written

  abbrev begin_on : ℕ → ℕ
  begin_on = begin_of s image gates batches lawful has written

  -- the batch on a slot
  abbrev pub batch_on : ℕ × ℕ → LoggedBatch K
  batch_on slot = (placed_batch batches (gates_on slot.0) (begin_on slot.0) slot.1).batch

  pub from_open : (slot : ℕ × ℕ) → Among slot (open_slots gates) → IsOpenSlot gates_on slot
  from_open slot m = elim (from_append slot (open_slots_of gates.first 0) (open_slots_of gates.second 1) m) [
    | inl first ↦ of_one 0 (omega arith) slot (from_half 0 gates.first slot first)
    | inr second ↦ of_one 1 (omega arith) slot (from_half 1 gates.second slot second)
  ]
    where
      of_one : (h : ℕ) → h < 2 → (slot : ℕ × ℕ) → (slot.0 ≡ h) × (slot.1 < last_gate (gates_on h)) × (slice_index (gates_on h) slot.1 ≡ 1) → IsOpenSlot gates_on slot
      of_one h two slot is = record {
        two = omega (arith, two, is.0);
        inside = subst (λ (j : ℕ). slot.1 < last_gate (gates_on j)) (sym is.0) is.1;
        gate = subst (λ (j : ℕ). slice_index (gates_on j) slot.1 ≡ 1) (sym is.0) is.2;
      }

  pub into_open : (h i : ℕ) → h < 2 → i < last_gate (gates_on h) → slice_index (gates_on h) i ≡ 1 → Among (h, i) (open_slots gates)
  into_open zero i two lt gate = among_left (0, i) (open_slots_of gates.first 0) (open_slots_of gates.second 1) (into_half 0 gates.first i lt gate)
  into_open (suc zero) i two lt gate = among_right (1, i) (open_slots_of gates.first 0) (open_slots_of gates.second 1) (into_half 1 gates.second i lt gate)
  into_open (suc (suc h)) i two lt gate = absurd (omega (arith, two))

  -- the open slots spell the batches on them
  pub open_spelled : HasBatches s image (open_slots gates) (map batch_on (open_slots gates))
  open_spelled = record {
    count = length-map (open_slots gates) batch_on;
    each = λ i slot b at is.
        let open_it = from_open slot (among_at (open_slots gates) i slot at) in
        let same : b ≡ batch_on slot = same_Some b (batch_on slot) (sym is ∙ slice_get-map batch_on (open_slots gates) i ∙ ap (option_map batch_on) at) in
        subst (SpellsBatch (page_of (slot_page s slot.0 slot.1) image)) (sym same) (batch_spelled s image gates batches lawful has written slot.0 slot.1 open_it.two open_it.inside);
  }

  -- and there they count
  pub counts_there : (slot : ℕ × ℕ) → Among slot (open_slots gates) → slice_get (placed_half s image gates batches lawful has written slot.0) slot.1 ≡ Some (record { batch = batch_on slot; gate = Counting })
  counts_there slot m =
      let open_it = from_open slot m in
      placed_there batches (gates_on slot.0) (begin_on slot.0) slot.1 open_it.inside ∙ ap (λ (g : ℕ). Some (record { batch = batch_on slot; gate = rule_of g })) open_it.gate
