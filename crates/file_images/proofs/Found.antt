-- What is found in an image that shows what a file keeps, with nothing on the next slot: the gates, and the batches.
use Rattle.std.proofs.Common.{◌≡◌, ◌<◌, ◌≤◌, ◌⊎◌, inl, inr, ◌+◌, ℕ, zero, suc, Bool, true, false, ◌&&◌, List, [], length, map, slice_index, get_or, sym, ap, subst, ◌∙◌, arith, eqb-true, eq-eqb, true≢false}
use Rattle.std.specs.Prelude.{slice_get, Some, None, filter, All, Contains, ◌==◌, option_map}
use Rattle.std.proofs.lemmas.Bool.{cases_eq, false_from_ne_true}
use Rattle.std.proofs.lemmas.Option.{slice_get-map, slice_get_within, slice_get-get_or, get_or_from_slice_get, same_Some}
use Rattle.std.proofs.lemmas.List.{length-map}
use Rattle.grid_types.specs.declared.shape.Shape.{Shape}
use Rattle.grid_types.specs.Pages.{page_of}
use Rattle.grid_types.specs.Shapes.{slot_page}
use Rattle.grid_types.proofs.Numbers.{both, first, second}
use Rattle.grid_model.specs.Lists.{below}
use Rattle.grid_model.specs.Spellings.{LoggedBatch}
use Rattle.grid_model.specs.Images.{Gates, HasGates, HasGatesOf, HasBatches, SpellsBatch, open_slots, open_slots_of, written_slots, last_gate, of_session, joining, Join}
use Rattle.journal_slots.proofs.Frames.{gate_is_byte}
use Rattle.journal_slots.proofs.LastGates.{last_gate_before}
use Rattle.file_images.specs.Kept.{GateRule, Counting, Either, PlacedBatch, NextSlot, Shut, Kept, on_half, used}
use Rattle.file_images.specs.Shows.{gate_in, Obeys, ShowsPlaced, ShowsNext, Shows}
use Rattle.file_images.specs.Leads.{Chain, IsPassed, IsKnown, CountsOn}
use Rattle.file_images.proofs.PagesApart.{few}
use Rattle.file_images.proofs.Elements.{Among, among_at, among_map, from_map, among_left, among_right, from_append, among_filter, from_filter, find_through, found_none, among_range, from_range, among_these, contains_it}
use Rattle.file_images.proofs.Earlier.{IsFirst, open_ascend, first_found}
use Rattle.file_images.proofs.Frames.{used_few}
use Rattle.file_images.proofs.Chains.{chain_above, chain_up, chain_below, chain_once, joined}

-- what stands on no slot
abbrev nothing : {K : ℕ} → LoggedBatch K
nothing = record { session = 0; first = 0; updates = [] }

-- the batch on a slot
abbrev pub batch_at : {K : ℕ} → Kept K → ℕ × ℕ → LoggedBatch K
batch_at k slot = (get_or (on_half k slot.0) slot.1 (record { batch = nothing; gate = Either })).batch

split : (i n : ℕ) → (i < n) ⊎ (n ≤ i)
split i n = grind arith

module _ {K : ℕ} (k : Kept K) (image : List ℕ) (was : Shows k image) (shut : k.next ≡ Shut) where
  abbrev s : Shape
  s = k.shape

  -- the gates of both halves
  abbrev pub gates : Gates
  gates = record { first = (was.formed 0 (omega arith)).gates; second = (was.formed 1 (omega arith)).gates }

  abbrev default : PlacedBatch K
  default = record { batch = nothing; gate = Either }

  abbrev IsUsed : ℕ × ℕ → Type 0
  IsUsed slot = (slot.0 < 2) × (slot.1 < used k slot.0)

  first_has : HasGatesOf s image 0 gates.first
  first_has = record { count = (was.formed 0 (omega arith)).count; page = (was.formed 0 (omega arith)).spelled }

  second_has : HasGatesOf s image 1 gates.second
  second_has = record { count = (was.formed 1 (omega arith)).count; page = (was.formed 1 (omega arith)).spelled }

  pub has_gates : HasGates s image gates
  has_gates = record { first = first_has; second = second_has }

  -- behind the used slots each gate is 0
  pub zero_behind : (h i : ℕ) → h < 2 → i < s.slots → used k h ≤ i → gate_in s h i image ≡ 0
  zero_behind h i two lt le = elim (cases_eq h k.half) [
    | inl same ↦ elim (cases_eq i (used k k.half)) [
      | inl at ↦
          let next : gate_in s k.half (used k k.half) image ≡ 0 = subst (λ (n : NextSlot K). ShowsNext s k.half (used k k.half) n image) shut (was.next (omega (arith, lt, at))) in
          subst (λ (z : ℕ × ℕ). gate_in s z.0 z.1 image ≡ 0) (λ j. (sym same j, sym at j)) next
      | inr off ↦ was.unused h i (record { two = two; inside = lt; behind = le; apart = inr off })
    ]
    | inr other ↦ was.unused h i (record { two = two; inside = lt; behind = le; apart = inl other })
  ]

  placed_is : (h i : ℕ) → i < used k h → slice_get (on_half k h) i ≡ Some (get_or (on_half k h) i default)
  placed_is h i lt = slice_get-get_or (on_half k h) i default lt

  has_batches : (slots : List (ℕ × ℕ)) → ((x : ℕ × ℕ) → Among x slots → IsUsed x) → HasBatches s image slots (map (batch_at k) slots)
  has_batches slots all = record {
    count = length-map slots (batch_at k);
    each = λ i slot b at is.
        let u = all slot (among_at slots i slot at) in
        let same : b ≡ batch_at k slot = same_Some b (batch_at k slot) (sym is ∙ slice_get-map (batch_at k) slots i ∙ ap (option_map (batch_at k)) at) in
        subst (SpellsBatch (page_of (slot_page s slot.0 slot.1) image)) (sym same) (was.slots slot.0 slot.1 (get_or (on_half k slot.0) slot.1 default) u.0 (placed_is slot.0 slot.1 u.1)).spelled;
  }

  open_at : (h i : ℕ) → h < 2 → i < s.slots → gate_in s h i image ≡ 1 → i < used k h
  open_at h i two lt gate = elim (split i (used k h)) [ inl less ↦ less | inr more ↦ absurd (omega (arith, gate, zero_behind h i two lt more)) ]

  -- the open slots of a half, and those up to its last gate, are used
  module _ (h : ℕ) (two : h < 2) (gs : List ℕ) (has : HasGatesOf s image h gs) where
    there_is : (i : ℕ) → i < s.slots → slice_index gs i ≡ gate_in s h i image
    there_is i lt = gate_is_byte s h (few s was.shape.lawful) i gs image lt has

    open_half : (slot : ℕ × ℕ) → Among slot (open_slots_of gs h) → (slot.0 < 2) × (slot.1 < used k slot.0) × (gate_in s slot.0 slot.1 image ≡ 1)
    open_half slot m =
        let x = from_map (λ (i : ℕ). (h, i)) (filter (λ i. slice_index gs i == 1) (below (length gs))) slot m in
        let passed = from_filter (λ i. slice_index gs i == 1) (below (length gs)) x.0 x.1 in
        let range = from_range 0 (length gs) x.0 passed.0 in
        let lt : x.0 < s.slots = omega (arith, range.1, has.count) in
        let gate : gate_in s h x.0 image ≡ 1 = sym (there_is x.0 lt) ∙ eqb-true (slice_index gs x.0) 1 passed.1 in
        subst (λ (z : ℕ × ℕ). (z.0 < 2) × (z.1 < used k z.0) × (gate_in s z.0 z.1 image ≡ 1)) (sym x.2) (two, open_at h x.0 two lt gate, gate)

    among_half : (i : ℕ) → i < used k h → gate_in s h i image ≡ 1 → Among (h, i) (open_slots_of gs h)
    among_half i lt gate =
        let less : i < s.slots = omega (arith, lt, used_few k h two was.sizes) in
        among_map (λ (j : ℕ). (h, j)) i (filter (λ j. slice_index gs j == 1) (below (length gs)))
        (among_filter (λ j. slice_index gs j == 1) i (below (length gs)) (among_range i 0 (length gs) (omega arith) (omega (arith, less, has.count)))
        (eq-eqb (slice_index gs i) 1 (there_is i less ∙ gate)))

    last_low : last_gate gs ≤ used k h
    last_low = last_gate_before gs (used k h) (λ i le lt. there_is i (omega (arith, lt, has.count)) ∙ zero_behind h i two (omega (arith, lt, has.count)) le)

    written_half : (slot : ℕ × ℕ) → Among slot (map (λ i. (h, i)) (below (last_gate gs))) → IsUsed slot
    written_half slot m =
        let x = from_map (λ (i : ℕ). (h, i)) (below (last_gate gs)) slot m in
        let range = from_range 0 (last_gate gs) x.0 x.1 in
        subst (λ (z : ℕ × ℕ). (z.0 < 2) × (z.1 < used k z.0)) (sym x.2) (two, omega (arith, range.1, last_low))

  open_used : (slot : ℕ × ℕ) → Among slot (open_slots gates) → (slot.0 < 2) × (slot.1 < used k slot.0) × (gate_in s slot.0 slot.1 image ≡ 1)
  open_used slot m = elim (from_append slot (open_slots_of gates.first 0) (open_slots_of gates.second 1) m) [
    | inl first ↦ open_half 0 (omega arith) gates.first first_has slot first
    | inr second ↦ open_half 1 (omega arith) gates.second second_has slot second
  ]

  used_open : (h i : ℕ) → h < 2 → i < used k h → gate_in s h i image ≡ 1 → Among (h, i) (open_slots gates)
  used_open zero i two lt gate = among_left (0, i) (open_slots_of gates.first 0) (open_slots_of gates.second 1) (among_half 0 two gates.first first_has i lt gate)
  used_open (suc zero) i two lt gate = among_right (1, i) (open_slots_of gates.first 0) (open_slots_of gates.second 1) (among_half 1 two gates.second second_has i lt gate)
  used_open (suc (suc h)) i two lt gate = absurd (omega (arith, two))

  written_used : (slot : ℕ × ℕ) → Among slot (written_slots gates) → IsUsed slot
  written_used slot m = elim (from_append slot (map (λ i. (0, i)) (below (last_gate gates.first))) (map (λ i. (1, i)) (below (last_gate gates.second))) m) [
    | inl first ↦ written_half 0 (omega arith) gates.first first_has slot first
    | inr second ↦ written_half 1 (omega arith) gates.second second_has slot second
  ]

  pub opened_there : HasBatches s image (open_slots gates) (map (batch_at k) (open_slots gates))
  opened_there = has_batches (open_slots gates) (λ x m. let u = open_used x m in (u.0, u.1))

  pub written_there : HasBatches s image (written_slots gates) (map (batch_at k) (written_slots gates))
  written_there = has_batches (written_slots gates) written_used

  -- what holds of the batch of each used slot holds of each batch up to the last gate
  pub written_all : (P : LoggedBatch K → Type 0) → ((h i : ℕ) (p : PlacedBatch K) → h < 2 → slice_get (on_half k h) i ≡ Some p → P p.batch) → All P (map (batch_at k) (written_slots gates))
  written_all P each i d lt =
      let at = slice_get-get_or (map (batch_at k) (written_slots gates)) i d lt in
      let x = from_map (batch_at k) (written_slots gates) (get_or (map (batch_at k) (written_slots gates)) i d) (among_at (map (batch_at k) (written_slots gates)) i (get_or (map (batch_at k) (written_slots gates)) i d) at) in
      let u = written_used x.0 x.1 in
      subst P (sym x.2) (each x.0.0 x.0.1 (get_or (on_half k x.0.0) x.0.1 default) u.0 (placed_is x.0.0 x.0.1 u.1))

  -- a batch that counts is on an open slot
  counts_open : (b : LoggedBatch K) (on : CountsOn k b) → Among (on.half, on.slot) (open_slots gates) × (batch_at k (on.half, on.slot) ≡ b)
  counts_open b on =
      let p : PlacedBatch K = record { batch = b; gate = Counting } in
      let shown : ShowsPlaced s on.half on.slot p image = was.slots on.half on.slot p on.two on.there in
      (used_open on.half on.slot on.two (slice_get_within (on_half k on.half) on.slot p on.there) shown.gate, ap (λ (x : PlacedBatch K). x.batch) (get_or_from_slice_get (on_half k on.half) on.slot p default on.there))

  module _ (session from front : ℕ) (taken : List (LoggedBatch K)) (chain : Chain from taken front) (there_all : (b : LoggedBatch K) → Contains taken b → (b.session ≡ session) × CountsOn k b)
      (known : (h i : ℕ) (p : PlacedBatch K) → h < 2 → slice_get (on_half k h) i ≡ Some p → p.batch.session ≡ session → IsKnown k from taken front front h i p) where
    abbrev opened : List (LoggedBatch K)
    opened = map (batch_at k) (open_slots gates)

    -- the batch on a slot is of the session, and joins a place
    abbrev joins_at : ℕ → ℕ × ℕ → Bool
    joins_at place slot = ((batch_at k slot).session == session) && ((batch_at k slot).first == place + 1)

    joins_there : (place : ℕ) (slot : ℕ × ℕ) (c : LoggedBatch K) → batch_at k slot ≡ c → c.session ≡ session → c.first ≡ place + 1 → joins_at place slot ≡ true
    joins_there place slot c is mine begins =
        both ((batch_at k slot).session == session) ((batch_at k slot).first == place + 1)
        (eq-eqb (batch_at k slot).session session (ap (λ (b : LoggedBatch K). b.session) is ∙ mine)) (eq-eqb (batch_at k slot).first (place + 1) (ap (λ (b : LoggedBatch K). b.first) is ∙ begins))

    of_the_session : (place : ℕ) (slot : ℕ × ℕ) → joins_at place slot ≡ true → (batch_at k slot).session ≡ session
    of_the_session place slot is = eqb-true (batch_at k slot).session session (first ((batch_at k slot).session == session) ((batch_at k slot).first == place + 1) is)

    begins_there : (place : ℕ) (slot : ℕ × ℕ) → joins_at place slot ≡ true → (batch_at k slot).first ≡ place + 1
    begins_there place slot is = eqb-true (batch_at k slot).first (place + 1) (second ((batch_at k slot).session == session) ((batch_at k slot).first == place + 1) is)

    -- a batch under an open gate is not barred, so that the root has its updates, or it is taken, or passed over, or it begins beyond the end
    abbrev IsOpenKnown : ℕ × ℕ → Type 0
    IsOpenKnown slot =
        ((batch_at k slot).first ≤ from) ⊎ (Contains taken (batch_at k slot) ⊎ (IsPassed k taken front slot.0 slot.1 (get_or (on_half k slot.0) slot.1 default) ⊎ (front + 1 < (batch_at k slot).first)))

    open_known : (slot : ℕ × ℕ) → Among slot (open_slots gates) → (batch_at k slot).session ≡ session → IsOpenKnown slot
    open_known slot m mine =
        let u = open_used slot m in
        let p = get_or (on_half k slot.0) slot.1 default in
        let at = placed_is slot.0 slot.1 u.1 in
        elim (known slot.0 slot.1 p u.0 at mine) [
          | inl barred ↦ absurd (subst (λ (r : GateRule). Obeys r (gate_in s slot.0 slot.1 image)) barred (was.slots slot.0 slot.1 p u.0 at).gate u.2)
          | inr rest ↦ rest
        ]

    -- of the slots on which a batch joins a place where a taken one does, that one is on the first
    taken_first : (place : ℕ) (c : LoggedBatch K) (slot : ℕ × ℕ) → Contains taken c → c.first ≡ place + 1 → IsFirst (joins_at place) (open_slots gates) slot → batch_at k slot ≡ c
    taken_first place c slot on begins is = by (open_known slot is.among (of_the_session place slot is.passes))
      where
        same : (batch_at k slot).first ≡ c.first
        same = begins_there place slot is.passes ∙ sym begins

        by : IsOpenKnown slot → batch_at k slot ≡ c
        by (inl low) = absurd (omega (arith, low, same, chain_above from front taken c chain (among_these c taken on)))
        by (inr (inl mine)) = chain_once from front taken (batch_at k slot) c chain (among_these (batch_at k slot) taken mine) (among_these c taken on) same
        by (inr (inr (inl passed))) =
            let earlier = passed.later c on (sym same) in
            let there = counts_open c earlier.on in
            let none : joins_at place (earlier.on.half, earlier.on.slot) ≡ false = is.first (earlier.on.half, earlier.on.slot) there.0 earlier.before in
            absurd (true≢false (sym (joins_there place (earlier.on.half, earlier.on.slot) c there.1 (there_all c on).0 begins) ∙ none))
        by (inr (inr (inr far))) = absurd (omega (arith, far, same, chain_below from front taken c chain (among_these c taken on)))

    taken_joins : (place : ℕ) (c : LoggedBatch K) → Contains taken c → c.first ≡ place + 1 → joining (of_session session opened) place ≡ Some c
    taken_joins place c on begins =
        let at = there_all c on in
        let open_there = counts_open c at.1 in
        let it = first_found (joins_at place) (open_slots gates) (at.1.half, at.1.slot) (open_ascend gates) open_there.0 (joins_there place (at.1.half, at.1.slot) c open_there.1 at.0 begins) in
        find_through (batch_at k) (λ b. b.session == session) (λ b. b.first == place + 1) (open_slots gates) ∙ ap (option_map (batch_at k)) it.1.found ∙ ap Some (taken_first place c it.0 on begins it.1)

    -- no batch joins the end
    none_there : (slot : ℕ × ℕ) → Among slot (open_slots gates) → joins_at front slot ≡ true → ⊥
    none_there slot m is = by (open_known slot m (of_the_session front slot is))
      where
        first_is : (batch_at k slot).first ≡ front + 1
        first_is = begins_there front slot is

        by : IsOpenKnown slot → ⊥
        by (inl low) = omega (arith, low, first_is, chain_up from front taken chain)
        by (inr (inl mine)) = omega (arith, first_is, chain_below from front taken (batch_at k slot) chain (among_these (batch_at k slot) taken mine))
        by (inr (inr (inl passed))) = omega (arith, first_is, passed.behind)
        by (inr (inr (inr far))) = omega (arith, first_is, far)

    none_joins : joining (of_session session opened) front ≡ None
    none_joins =
        find_through (batch_at k) (λ b. b.session == session) (λ b. b.first == front + 1) (open_slots gates)
        ∙ ap (option_map (batch_at k)) (found_none (joins_at front) (open_slots gates) (λ slot m. false_from_ne_true (joins_at front slot) (none_there slot m)))

    pub joins : Join (of_session session opened) from taken front
    joins = joined (of_session session opened) front from taken chain (λ place b m begins. taken_joins place b (contains_it b taken m) begins) none_joins
