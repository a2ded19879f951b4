-- The batches on the slots of an image up to the last gate of each half, each with what its gate says of it.
use Rattle.std.proofs.Common.{◌≡◌, ◌<◌, ◌≤◌, ◌+◌, ◌==◌, ℕ, zero, suc, Bool, true, false, cond, List, [], map, length, get_or, slice_index, All, IsTrue, Some, refl, sym, ap, subst, ◌∙◌, length-append, arith, true≢false, eqb-true, eq-eqb}
use Rattle.std.specs.Prelude.{slice_get}
use Rattle.std.proofs.lemmas.List.{get_or_append_left, get_or-append-add}
use Rattle.std.proofs.lemmas.List.FromFn.{get_or-map-range_with_len, length-map-range_with_len}
use Rattle.std.proofs.lemmas.Option.{slice_get-get_or, slice_get_within, get_or_from_slice_get}
use Rattle.grid_types.specs.declared.shape.Shape.{Shape}
use Rattle.grid_types.specs.Pages.{page_of}
use Rattle.grid_types.specs.Shapes.{is_shape, slot_page}
use Rattle.grid_types.specs.Shapes as places
use Rattle.grid_types.proofs.Places.{within-limits}
use Rattle.grid_model.specs.Lists.{below}
use Rattle.grid_model.specs.Spellings.{LoggedBatch}
use Rattle.grid_model.specs.Images.{Gates, HasGates, HasGatesOf, HasBatches, written_slots, last_gate}
use Rattle.grid_model.specs.Slots.{HasBatch}
use Rattle.journal_slots.specs.Gates.{IsGatePage}
use Rattle.journal_slots.proofs.Frames.{gate_is_byte}
use Rattle.journal_slots.proofs.LastGates.{last_gate_known}
use Rattle.file_images.specs.Kept.{GateRule, Counting, Barred, PlacedBatch, of_half}
use Rattle.file_images.specs.Shows.{gate_in, Obeys, ShowsPlaced}

-- what a gate says of its batch: it counts where the gate is 1
abbrev pub rule_of : ℕ → GateRule
rule_of gate = cond (gate == 1) Counting Barred

-- a gate is as it says
obeys : (gate : ℕ) → Obeys (rule_of gate) gate
obeys gate = by (gate == 1) refl
  where
    by : (b : Bool) → (gate == 1) ≡ b → Obeys (cond b Counting Barred) gate
    by true e = eqb-true gate 1 e
    by false e = λ one. true≢false (sym (eq-eqb gate 1 one) ∙ e)

-- what stands on no slot
abbrev pub no_batch : {K : ℕ} → LoggedBatch K
no_batch = record { session = 0; first = 0; updates = [] }

module _ {K : ℕ} (batches : List (LoggedBatch K)) where
  -- the batch on slot i of a half whose slots stand from a place on in a list of batches
  abbrev pub placed_batch : List ℕ → ℕ → ℕ → PlacedBatch K
  placed_batch gates from i = record { batch = get_or batches (from + i) no_batch; gate = rule_of (slice_index gates i) }

  -- those on all slots of the half up to its last gate
  abbrev pub placed_on : List ℕ → ℕ → List (PlacedBatch K)
  placed_on gates from = map (placed_batch gates from) (below (last_gate gates))

  pub length_placed : (gates : List ℕ) (from : ℕ) → length (placed_on gates from) ≡ last_gate gates
  length_placed gates from = length-map-range_with_len (placed_batch gates from) 0 (last_gate gates)

  -- each stands in its place
  pub placed_there : (gates : List ℕ) (from i : ℕ) → i < last_gate gates → slice_get (placed_on gates from) i ≡ Some (placed_batch gates from i)
  placed_there gates from i lt =
      slice_get-get_or (placed_on gates from) i (placed_batch gates from i) (omega (arith, lt, length_placed gates from))
      ∙ ap (λ (p : PlacedBatch K). Some p) (get_or-map-range_with_len (placed_batch gates from) 0 (last_gate gates) i i (placed_batch gates from i) lt (omega arith))

  -- and no other
  pub placed_is : (gates : List ℕ) (from i : ℕ) (p : PlacedBatch K) → slice_get (placed_on gates from) i ≡ Some p → (i < last_gate gates) × (p ≡ placed_batch gates from i)
  placed_is gates from i p at =
      let lt : i < last_gate gates = omega (arith, slice_get_within (placed_on gates from) i p at, length_placed gates from) in
      (lt, sym (get_or_from_slice_get (placed_on gates from) i p p at) ∙ get_or-map-range_with_len (placed_batch gates from) 0 (last_gate gates) i i p lt (omega arith))

module _ {K : ℕ} (s : Shape) (image : List ℕ) (gates : Gates) (batches : List (LoggedBatch K)) (lawful : IsTrue (is_shape s)) (has : HasGates s image gates) (written : HasBatches s image (written_slots gates) batches) where
  -- the gates of a half, and where its slots begin among those that are written
  abbrev pub gates_of : ℕ → List ℕ
  gates_of h = of_half gates.first gates.second h

  abbrev pub begin_of : ℕ → ℕ
  begin_of h = of_half 0 (last_gate gates.first) h

  -- the batches on a half
  abbrev pub placed_half : ℕ → List (PlacedBatch K)
  placed_half h = placed_on batches (gates_of h) (begin_of h)

  pub has_of : (h : ℕ) → h < 2 → HasGatesOf s image h (gates_of h)
  has_of zero two = has.first
  has_of (suc zero) two = has.second
  has_of (suc (suc h)) two = absurd (omega (arith, two))

  -- a gate of the image
  pub gate_there : (h i : ℕ) → h < 2 → i < s.slots → slice_index (gates_of h) i ≡ gate_in s h i image
  gate_there h i two lt = gate_is_byte s h (within-limits s lawful).few_slots i (gates_of h) image lt (has_of h two)

  -- the slots up to the last gate are slots of the half
  pub few_placed : (h : ℕ) → h < 2 → last_gate (gates_of h) ≤ s.slots
  few_placed h two = omega (arith, (last_gate_known (gates_of h)).few, (has_of h two).count)

  -- behind it each gate is 0
  pub zero_behind : (h i : ℕ) → h < 2 → last_gate (gates_of h) ≤ i → i < s.slots → gate_in s h i image ≡ 0
  zero_behind h i two le lt = sym (gate_there h i two lt) ∙ (last_gate_known (gates_of h)).behind i le (omega (arith, lt, (has_of h two).count))

  pub gate_formed : (h : ℕ) → h < 2 → IsGatePage h s.slots (page_of (places.gate_page s h) image)
  gate_formed h two = record { gates = gates_of h; count = (has_of h two).count; spelled = (has_of h two).page }

  abbrev slots_in : ℕ → List ℕ → List (ℕ × ℕ)
  slots_in h gs = map (λ i. (h, i)) (below (last_gate gs))

  length_slots : (h : ℕ) (gs : List ℕ) → length (slots_in h gs) ≡ last_gate gs
  length_slots h gs = length-map-range_with_len (λ (i : ℕ). (h, i)) 0 (last_gate gs)

  length_written : length (written_slots gates) ≡ last_gate gates.first + last_gate gates.second
  length_written = omega (arith, length-append (slots_in 0 gates.first) (slots_in 1 gates.second), length_slots 0 gates.first, length_slots 1 gates.second)

  -- where a slot stands among those that are written
  slot_there : (h i : ℕ) → h < 2 → i < last_gate (gates_of h) → get_or (written_slots gates) (begin_of h + i) (0, 0) ≡ (h, i)
  slot_there zero i two lt =
      let at : begin_of 0 + i ≡ i = omega arith in
      ap (λ (j : ℕ). get_or (written_slots gates) j (0, 0)) at
      ∙ get_or_append_left (slots_in 0 gates.first) (slots_in 1 gates.second) (0, 0) i (omega (arith, lt, length_slots 0 gates.first))
      ∙ get_or-map-range_with_len (λ (j : ℕ). (0, j)) 0 (last_gate gates.first) i i (0, 0) lt (omega arith)
  slot_there (suc zero) i two lt =
      let at : last_gate gates.first + i ≡ length (slots_in 0 gates.first) + i = omega (arith, length_slots 0 gates.first) in
      ap (λ (j : ℕ). get_or (written_slots gates) j (0, 0)) at
      ∙ get_or-append-add (slots_in 0 gates.first) (slots_in 1 gates.second) i (0, 0)
      ∙ get_or-map-range_with_len (λ (j : ℕ). (1, j)) 0 (last_gate gates.second) i i (0, 0) lt (omega arith)
  slot_there (suc (suc h)) i two lt = absurd (omega (arith, two))

  inside : (h i : ℕ) → h < 2 → i < last_gate (gates_of h) → begin_of h + i < length (written_slots gates)
  inside zero i two lt = omega (arith, lt, length_written)
  inside (suc zero) i two lt = omega (arith, lt, length_written)
  inside (suc (suc h)) i two lt = absurd (omega (arith, two))

  -- the batch of a slot is spelled there
  pub batch_spelled : (h i : ℕ) → h < 2 → i < last_gate (gates_of h) → HasBatch s h i (placed_batch batches (gates_of h) (begin_of h) i).batch image
  batch_spelled h i two lt =
      let at = begin_of h + i in
      let low = inside h i two lt in
      let slot : slice_get (written_slots gates) at ≡ Some (h, i) = slice_get-get_or (written_slots gates) at (0, 0) low ∙ ap (λ (z : ℕ × ℕ). Some z) (slot_there h i two lt) in
      written.each at (h, i) (get_or batches at no_batch) slot (slice_get-get_or batches at no_batch (omega (arith, low, written.count)))

  -- so the image shows each batch of a half as it is placed
  pub placed_shown : (h i : ℕ) (p : PlacedBatch K) → h < 2 → slice_get (placed_half h) i ≡ Some p → ShowsPlaced s h i p image
  placed_shown h i p two at =
      let is = placed_is batches (gates_of h) (begin_of h) i p at in
      let gate : gate_in s h i image ≡ slice_index (gates_of h) i = sym (gate_there h i two (omega (arith, is.0, few_placed h two))) in
      subst (λ (q : PlacedBatch K). ShowsPlaced s h i q image) (sym is.1) (record {
        spelled = batch_spelled h i two is.0;
        gate = subst (Obeys (rule_of (slice_index (gates_of h) i))) (sym gate) (obeys (slice_index (gates_of h) i));
      })

  -- what holds of each batch that is written holds of each that is placed
  pub placed_all : (P : LoggedBatch K → Type 0) → All P batches → (h i : ℕ) (p : PlacedBatch K) → h < 2 → slice_get (placed_half h) i ≡ Some p → P p.batch
  placed_all P all h i p two at =
      let is = placed_is batches (gates_of h) (begin_of h) i p at in
      subst (λ (q : PlacedBatch K). P q.batch) (sym is.1) (all (begin_of h + i) no_batch (omega (arith, inside h i two is.0, written.count)))
