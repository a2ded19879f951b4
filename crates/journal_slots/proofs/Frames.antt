-- What an image says of gate pages, gates and slots stays where other bytes change, and one changed gate byte changes one gate.
use Rattle.std.proofs.Common.{◌≡◌, ◌≢◌, ◌<◌, ◌≤◌, ◌⊎◌, inl, inr, ◌+◌, ◌-◌, ◌*◌, ◌++◌, ℕ, List, length, take, drop, get_or, slice_index, replicate, sym, ap, subst, ◌∙◌, arith}
use Rattle.std.specs.Prelude.{min, IsTrue, Some, slice_get, slice_set}
use Rattle.std.proofs.lemmas.Bool.{cases_eq}
use Rattle.std.proofs.lemmas.List.{length-take, length-drop, length-take-le, length-set, length-append, length-replicate, get_or-replicate, get_or_append_left, get_or-append_right, get_or-take, get_or-drop, get_or-set_same, get_or-set_other, ext_get_or}
use Rattle.grid_types.specs.declared.shape.Shape.{Shape}
use Rattle.grid_types.specs.Pages.{page_of}
use Rattle.grid_types.specs.Ranges.{slot_ranges}
use Rattle.grid_types.specs.Shapes.{is_shape, slot_page, slot_gate_at}
use Rattle.grid_types.specs.Shapes as places
use Rattle.grid_types.proofs.Places.{within-limits, slot-page-lies}
use Rattle.disk_trait.specs.Disk.{Agrees, Holds}
use Rattle.disk_trait.specs.Moments.{AgreesOutside}
use Rattle.disk_trait.proofs.Pages.{page_apart, byte_apart, byte_of_page, part_written, pages_lie_apart, byte_off_range}
use Rattle.disk_trait.proofs.Ranges.{SamePage, PageIsOutside, page_outside}
use Rattle.page_fields.specs.Padded.{padded}
use Rattle.page_fields.proofs.BytesOf.{length-padded}
use Rattle.grid_model.specs.Spellings.{LoggedBatch, gate_spelling}
use Rattle.grid_model.specs.Images.{HasGatesOf, HasBatches}
use Rattle.grid_model.specs.Slots.{HasBatch}
use Rattle.journal_slots.specs.Gates.{gates_in, IsGateHead}
use Rattle.journal_slots.proofs.DifferentPages.{gate_pages_differ, slot_page_is_no_gate_page, slot_pages_differ}
use Rattle.journal_slots.proofs.GatePages.{gate_head, gate_page_is, length-gate_head, gates_joined, head_there, zeros_there, gates_there}

-- the gates of a half stay where its gate page does
pub gates_stay_by_page : (s : Shape) (half : ℕ) (gates c d : List ℕ) → SamePage (places.gate_page s half) c d → HasGatesOf s c half gates → HasGatesOf s d half gates
gates_stay_by_page s half gates c d same was = record { count = was.count; page = same ∙ was.page }

-- a slot has the same batch where its page stays
pub batch_stays_by_page : {K : ℕ} (s : Shape) (half slot : ℕ) (b : LoggedBatch K) (c d : List ℕ) → SamePage (slot_page s half slot) c d → HasBatch s half slot b c → HasBatch s half slot b d
batch_stays_by_page s half slot b c d same was = record { lawful = was.lawful; spelled = same ∙ was.spelled }

-- some slots have the same batches where their pages stay
pub batches_stay_by_page : {K : ℕ} (s : Shape) (slots : List (ℕ × ℕ)) (bs : List (LoggedBatch K)) (c d : List ℕ) → ((i : ℕ) (slot : ℕ × ℕ) → slice_get slots i ≡ Some slot → SamePage (slot_page s slot.0 slot.1) c d) → HasBatches s c slots bs → HasBatches s d slots bs
batches_stay_by_page s slots bs c d same was = record { count = was.count; each = λ i slot b at is. batch_stays_by_page s slot.0 slot.1 b c d (same i slot at) (was.each i slot b at is) }

-- where n bytes change that lie beside the gate page, the gates stay
pub gates_stay_apart : (s : Shape) (half at n : ℕ) (gates c d : List ℕ) → (places.gate_page s half * 4096 + 4096 ≤ at) ⊎ (at + n ≤ places.gate_page s half * 4096) → Agrees at n c d → HasGatesOf s c half gates → HasGatesOf s d half gates
gates_stay_apart s half at n gates c d apart a was = gates_stay_by_page s half gates c d (page_apart at n (places.gate_page s half) c d apart a) was

-- where n bytes change that lie beside a slot's page, its batch stays
pub batch_stays_apart : {K : ℕ} (s : Shape) (half slot at n : ℕ) (b : LoggedBatch K) (c d : List ℕ) → (slot_page s half slot * 4096 + 4096 ≤ at) ⊎ (at + n ≤ slot_page s half slot * 4096) → Agrees at n c d → HasBatch s half slot b c → HasBatch s half slot b d
batch_stays_apart s half slot at n b c d apart a was = batch_stays_by_page s half slot b c d (page_apart at n (slot_page s half slot) c d apart a) was

-- where n bytes change that lie beside the pages of some slots, their batches stay
pub batches_stay_apart : {K : ℕ} (s : Shape) (slots : List (ℕ × ℕ)) (at n : ℕ) (bs : List (LoggedBatch K)) (c d : List ℕ) → ((i : ℕ) (slot : ℕ × ℕ) → slice_get slots i ≡ Some slot → (slot_page s slot.0 slot.1 * 4096 + 4096 ≤ at) ⊎ (at + n ≤ slot_page s slot.0 slot.1 * 4096))
    → Agrees at n c d → HasBatches s c slots bs → HasBatches s d slots bs
batches_stay_apart s slots at n bs c d apart a was = batches_stay_by_page s slots bs c d (λ i slot is. page_apart at n (slot_page s slot.0 slot.1) c d (apart i slot is) a) was

-- where only ranges change that lie beside the gate page, the gates stay
pub gates_stay_outside : (s : Shape) (half : ℕ) (rs : List (ℕ × ℕ)) (gates c d : List ℕ) → PageIsOutside rs (places.gate_page s half) → AgreesOutside rs c d → HasGatesOf s c half gates → HasGatesOf s d half gates
gates_stay_outside s half rs gates c d apart a was = gates_stay_by_page s half gates c d (page_outside rs (places.gate_page s half) c d apart a) was

-- where only ranges change that lie beside a slot's page, its batch stays
pub batch_stays_outside : {K : ℕ} (s : Shape) (half slot : ℕ) (rs : List (ℕ × ℕ)) (b : LoggedBatch K) (c d : List ℕ) → PageIsOutside rs (slot_page s half slot) → AgreesOutside rs c d → HasBatch s half slot b c → HasBatch s half slot b d
batch_stays_outside s half slot rs b c d apart a was = batch_stays_by_page s half slot b c d (page_outside rs (slot_page s half slot) c d apart a) was

-- where only ranges change that lie beside the pages of some slots, their batches stay
pub batches_stay_outside : {K : ℕ} (s : Shape) (slots rs : List (ℕ × ℕ)) (bs : List (LoggedBatch K)) (c d : List ℕ) → ((i : ℕ) (slot : ℕ × ℕ) → slice_get slots i ≡ Some slot → PageIsOutside rs (slot_page s slot.0 slot.1)) → AgreesOutside rs c d → HasBatches s c slots bs → HasBatches s d slots bs
batches_stay_outside s slots rs bs c d apart a was = batches_stay_by_page s slots bs c d (λ i slot is. page_outside rs (slot_page s slot.0 slot.1) c d (apart i slot is) a) was

-- where the gate of a slot stands
pub gate_at_is : (s : Shape) (half slot : ℕ) → slot_gate_at s half slot ≡ places.gate_page s half * 4096 + (96 + slot)
unfolding slot_gate_at
gate_at_is s half slot = omega arith

-- a gate page has all its bytes
length-gate_spelling : (half : ℕ) (gates : List ℕ) → length gates ≤ 4000 → length (gate_spelling half gates) ≡ 4096
length-gate_spelling half gates few =
    ap length (gate_page_is half gates) ∙ omega (arith, length-append (gate_head half) (padded 4000 gates), length-gate_head half, length-padded 4000 gates few)

module _ (s : Shape) (half : ℕ) (few : s.slots ≤ 4000) where
  abbrev here : ℕ
  here = places.gate_page s half

  -- a gate of a gate page is a byte of the image
  pub gate_is_byte : (slot : ℕ) (gates c : List ℕ) → slot < s.slots → HasGatesOf s c half gates → slice_index gates slot ≡ slice_index c (slot_gate_at s half slot)
  gate_is_byte slot gates c lt has =
      let page = page_of here c in
      let listed : gates ≡ gates_in s.slots page = gates_there half gates page has.page ∙ ap (λ (n : ℕ). gates_in n page) has.count in
      ap (λ (gs : List ℕ). slice_index gs slot) listed ∙ get_or-take s.slots (drop 96 page) slot 0 lt ∙ get_or-drop 96 page slot 0 ∙ byte_of_page here (96 + slot) c (omega (arith, lt, few)) ∙ ap (slice_index c) (sym (gate_at_is s half slot))

  -- so a gate stays where its byte does
  pub gate_stays_by_byte : (slot : ℕ) (gates more c d : List ℕ) → slot < s.slots → slice_index d (slot_gate_at s half slot) ≡ slice_index c (slot_gate_at s half slot) → HasGatesOf s c half gates → HasGatesOf s d half more → slice_index more slot ≡ slice_index gates slot
  gate_stays_by_byte slot gates more c d lt same has now = gate_is_byte slot more d lt now ∙ same ∙ sym (gate_is_byte slot gates c lt has)

  -- the bytes of a gate's page stay where the page does, so the gate does
  pub gate_byte_stays_by_page : (slot : ℕ) (c d : List ℕ) → slot < s.slots → SamePage here c d → slice_index d (slot_gate_at s half slot) ≡ slice_index c (slot_gate_at s half slot)
  gate_byte_stays_by_page slot c d lt same =
      let inside : 96 + slot < 4096 = omega (arith, lt, few) in
      let at = gate_at_is s half slot in
      ap (slice_index d) at ∙ sym (byte_of_page here (96 + slot) d inside) ∙ ap (λ (p : List ℕ). slice_index p (96 + slot)) same ∙ byte_of_page here (96 + slot) c inside ∙ ap (slice_index c) (sym at)

  -- a change of gates from one on leaves the other bytes of their page
  module _ (two : half < 2) (from n : ℕ) (fits : from + n ≤ s.slots) (gates c d : List ℕ) (long : length d ≡ length c) (has : HasGatesOf s c half gates)
      (others : (j : ℕ) → j < 4096 → (j < 96 + from) ⊎ (96 + from + n ≤ j) → slice_index (page_of here d) j ≡ slice_index (page_of here c) j) where
    abbrev old : List ℕ
    old = page_of here c

    abbrev new : List ℕ
    new = page_of here d

    old_long : length old ≡ 4096
    old_long = ap length has.page ∙ length-gate_spelling half gates (omega (arith, has.count, few))

    new_long : length new ≡ 4096
    new_long = length-take 4096 (drop (here * 4096) d) ∙ ap (min 4096) (length-drop (here * 4096) d ∙ ap (λ (k : ℕ). k - here * 4096) long ∙ sym (length-drop (here * 4096) c)) ∙ sym (length-take 4096 (drop (here * 4096) c)) ∙ old_long

    front_same : take 8 new ≡ take 8 old
    front_same =
        let l1 : length (take 8 new) ≡ 8 = length-take-le 8 new (omega (arith, new_long)) in
        let l2 : length (take 8 old) ≡ 8 = length-take-le 8 old (omega (arith, old_long)) in
        ext_get_or 0 (take 8 new) (take 8 old) (l1 ∙ sym l2) (λ i h.
        let lt : i < 8 = omega (arith, h, l1) in
        get_or-take 8 new i 0 lt ∙ others i (omega (arith, lt)) (inl (omega (arith, lt))) ∙ sym (get_or-take 8 old i 0 lt))

    head : IsGateHead half new
    head =
        let was = head_there half gates old has.page two in
        record { front = front_same ∙ was.front; rest = λ i le lt. others i (omega (arith, lt)) (inl (omega (arith, lt))) ∙ was.rest i le lt }

    -- so the page spells the gates that stand in it
    pub gates_change : HasGatesOf s d half (gates_in s.slots new)
    gates_change =
        let zeros = zeros_there half gates old has.page (omega (arith, has.count, few)) in
        record {
          count = length-take-le s.slots (drop 96 new) (omega (arith, length-drop 96 new, new_long, few));
          page = gates_joined half s.slots new two few new_long head (λ i le lt. others i lt (inr (omega (arith, le, fits))) ∙ zeros i (omega (arith, le, has.count)) lt);
        }

    -- and each other gate stays
    pub other_gates_stay : (i : ℕ) → i < s.slots → (i < from) ⊎ (from + n ≤ i) → slice_index (gates_in s.slots new) i ≡ slice_index gates i
    other_gates_stay i lt beside =
        let listed : gates ≡ gates_in s.slots old = gates_there half gates old has.page ∙ ap (λ (k : ℕ). gates_in k old) has.count in
        let at : (96 + i < 96 + from) ⊎ (96 + from + n ≤ 96 + i) = elim beside [ inl low ↦ inl (omega (arith, low)) | inr high ↦ inr (omega (arith, high)) ] in
        get_or-take s.slots (drop 96 new) i 0 lt ∙ get_or-drop 96 new i 0 ∙ others (96 + i) (omega (arith, lt, few)) at ∙ sym (get_or-drop 96 old i 0) ∙ sym (get_or-take s.slots (drop 96 old) i 0 lt) ∙ ap (λ (gs : List ℕ). slice_index gs i) (sym listed)

  -- where one byte of the gate page changes, and it is a gate, that one gate changes
  pub one_gate_changes : (slot : ℕ) (gates c d : List ℕ) → half < 2 → slot < s.slots → length d ≡ length c → HasGatesOf s c half gates → ((j : ℕ) → j < 4096 → j ≢ 96 + slot → slice_index (page_of here d) j ≡ slice_index (page_of here c) j)
      → HasGatesOf s d half (slice_set gates slot (slice_index d (slot_gate_at s half slot)))
  one_gate_changes slot gates c d two lt long has others =
      let beside : (j : ℕ) → j < 4096 → (j < 96 + slot) ⊎ (96 + slot + 1 ≤ j) → slice_index (page_of here d) j ≡ slice_index (page_of here c) j =
      λ j less off. others j less (λ e. elim off [ inl low ↦ absurd (omega (arith, e, low)) | inr high ↦ absurd (omega (arith, e, high)) ]) in
      let fits : slot + 1 ≤ s.slots = omega (arith, lt) in
      let x = slice_index d (slot_gate_at s half slot) in
      let now = gates_change two slot 1 fits gates c d long has beside in
      let more = gates_in s.slots (page_of here d) in
      let same : more ≡ slice_set gates slot x = ext_get_or 0 more (slice_set gates slot x) (now.count ∙ sym (length-set gates slot x ∙ has.count)) (λ i h.
      let less : i < s.slots = omega (arith, h, now.count) in
      elim (cases_eq i slot) [
        | inl e ↦ gate_is_byte i more d less now ∙ ap (λ (k : ℕ). slice_index d (slot_gate_at s half k)) e ∙ sym (ap (λ (k : ℕ). get_or (slice_set gates slot x) k 0) e ∙ get_or-set_same gates slot x 0 (omega (arith, lt, has.count)))
        | inr apart ↦ other_gates_stay two slot 1 fits gates c d long has beside i less (grind (arith, apart)) ∙ sym (get_or-set_other gates slot i x 0 apart)
      ]) in
      subst (λ (gs : List ℕ). HasGatesOf s d half gs) same now

-- a slot of the file that is not this one
pub record IsOtherSlot (s : Shape) (half slot : ℕ) (other : ℕ × ℕ) : Type 0 where
  pub two : other.0 < 2
  pub inside : other.1 < s.slots
  pub apart : (other.0 ≢ half) ⊎ (other.1 ≢ slot)

-- what a commit on a slot leaves
module _ (s : Shape) (half slot : ℕ) (lawful : IsTrue (is_shape s)) (two : half < 2) (inside : slot < s.slots) (c d : List ℕ) (a : AgreesOutside (slot_ranges s half slot) c d) where
  few_slots : s.slots ≤ 4000
  few_slots = (within-limits s lawful).few_slots

  -- each page but the slot's own and its gate page stays
  pub page_stays_in_commit : (page : ℕ) → page ≢ slot_page s half slot → page ≢ places.gate_page s half → SamePage page c d
  page_stays_in_commit page off_slot off_gate = page_outside (slot_ranges s half slot) page c d (λ i low high. (
    byte_off_range page (slot_page s half slot) i (slot_page s half slot * 4096) 4096 off_slot low high (omega arith) (omega arith),
    (byte_off_range page (places.gate_page s half) i (slot_gate_at s half slot) 1 off_gate low high (omega (arith, gate_at_is s half slot)) (omega (arith, gate_at_is s half slot, inside, few_slots)), tt),
  )) a

  -- of its gates that slot's alone changes
  pub gates_in_commit : (gates : List ℕ) → HasGatesOf s c half gates → HasGatesOf s d half (slice_set gates slot (slice_index d (slot_gate_at s half slot)))
  gates_in_commit gates has =
      let gp = places.gate_page s half in
      let at = gate_at_is s half slot in
      let behind = (slot-page-lies s half slot lawful two inside).behind in
      one_gate_changes s half few_slots slot gates c d two inside a.same_length has (λ j less apart.
      byte_of_page gp j d less ∙ a.each (gp * 4096 + j) (inl (omega (arith, behind, less)), (grind (arith, at, apart), tt)) ∙ sym (byte_of_page gp j c less))

  -- the gates of the other half stay
  pub other_half_stays_in_commit : (h : ℕ) (gates : List ℕ) → h < 2 → h ≢ half → HasGatesOf s c h gates → HasGatesOf s d h gates
  other_half_stays_in_commit h gates too apart = gates_stay_by_page s h gates c d (page_stays_in_commit (places.gate_page s h) (λ e. slot_page_is_no_gate_page s half slot h two too inside (sym e)) (gate_pages_differ s h half too two apart))

  -- the page of each other slot stays
  pub slot_page_stays_in_commit : (other : ℕ × ℕ) → IsOtherSlot s half slot other → SamePage (slot_page s other.0 other.1) c d
  slot_page_stays_in_commit other is = page_stays_in_commit (slot_page s other.0 other.1) (slot_pages_differ s other.0 other.1 half slot is.two two is.inside inside is.apart) (slot_page_is_no_gate_page s other.0 other.1 half is.two two is.inside)

  -- so do the batches of other slots
  pub batches_stay_in_commit : {K : ℕ} (slots : List (ℕ × ℕ)) (bs : List (LoggedBatch K)) → ((i : ℕ) (other : ℕ × ℕ) → slice_get slots i ≡ Some other → IsOtherSlot s half slot other) → HasBatches s c slots bs → HasBatches s d slots bs
  batches_stay_in_commit slots bs others = batches_stay_by_page s slots bs c d (λ i other at. slot_page_stays_in_commit other (others i other at))

-- what a change of gates, from one on, leaves
module _ (s : Shape) (half from n : ℕ) (lawful : IsTrue (is_shape s)) (two : half < 2) (fits : from + n ≤ s.slots) (c d : List ℕ) (a : Agrees (slot_gate_at s half from) n c d) where
  few : s.slots ≤ 4000
  few = (within-limits s lawful).few_slots

  -- each page but the gate page stays
  pub page_stays_in_clearing : (page : ℕ) → page ≢ places.gate_page s half → SamePage page c d
  page_stays_in_clearing page apart =
      let at = gate_at_is s half from in
      page_apart (slot_gate_at s half from) n page c d (elim (pages_lie_apart page (places.gate_page s half) apart) [ inl below ↦ inl (omega (arith, below, at)) | inr behind ↦ inr (omega (arith, behind, at, fits, few)) ]) a

  bytes_beside : (j : ℕ) → j < 4096 → (j < 96 + from) ⊎ (96 + from + n ≤ j) → slice_index (page_of (places.gate_page s half) d) j ≡ slice_index (page_of (places.gate_page s half) c) j
  bytes_beside j less off =
      let gp = places.gate_page s half in
      let at = gate_at_is s half from in
      byte_of_page gp j d less ∙ byte_apart (slot_gate_at s half from) n (gp * 4096 + j) c d (elim off [ inl low ↦ inl (omega (arith, low, at)) | inr high ↦ inr (omega (arith, high, at)) ]) a ∙ sym (byte_of_page gp j c less)

  -- the page spells the gates that stand in it, whatever they are
  pub gates_in_clearing : (gates : List ℕ) → HasGatesOf s c half gates → HasGatesOf s d half (gates_in s.slots (page_of (places.gate_page s half) d))
  gates_in_clearing gates has = gates_change s half few two from n fits gates c d a.same_length has bytes_beside

  -- and each other gate stays
  pub other_gates_in_clearing : (gates more : List ℕ) → HasGatesOf s c half gates → HasGatesOf s d half more → (i : ℕ) → i < s.slots → (i < from) ⊎ (from + n ≤ i) → slice_index more i ≡ slice_index gates i
  other_gates_in_clearing gates more has now i lt beside =
      let listed : more ≡ gates_in s.slots (page_of (places.gate_page s half) d) = gates_there half more (page_of (places.gate_page s half) d) now.page ∙ ap (λ (k : ℕ). gates_in k (page_of (places.gate_page s half) d)) now.count in
      ap (λ (gs : List ℕ). slice_index gs i) listed ∙ other_gates_stay s half few two from n fits gates c d a.same_length has bytes_beside i lt beside

  -- the gates of the other half stay
  pub other_half_stays_in_clearing : (h : ℕ) (gates : List ℕ) → h < 2 → h ≢ half → HasGatesOf s c h gates → HasGatesOf s d h gates
  other_half_stays_in_clearing h gates too apart = gates_stay_by_page s h gates c d (page_stays_in_clearing (places.gate_page s h) (gate_pages_differ s h half too two apart))

  -- the batches of all slots stay
  pub batches_stay_in_clearing : {K : ℕ} (slots : List (ℕ × ℕ)) (bs : List (LoggedBatch K)) → ((i : ℕ) (slot : ℕ × ℕ) → slice_get slots i ≡ Some slot → (slot.0 < 2) × (slot.1 < s.slots)) → HasBatches s c slots bs → HasBatches s d slots bs
  batches_stay_in_clearing slots bs inside = batches_stay_by_page s slots bs c d (λ i slot at. page_stays_in_clearing (slot_page s slot.0 slot.1) (slot_page_is_no_gate_page s slot.0 slot.1 half (inside i slot at).0 two (inside i slot at).1))

-- once the first gates were closed, they are 0 and the others are as they were
pub cleared_gates : (s : Shape) (half used : ℕ) (lawful : IsTrue (is_shape s)) → half < 2 → used ≤ s.slots → (gates c d : List ℕ) → Agrees (slot_gate_at s half 0) used c d → Holds c (slot_gate_at s half 0) (replicate used 0) d → HasGatesOf s c half gates → HasGatesOf s d half (replicate used 0 ++ drop used gates)
cleared_gates s half used lawful two fits gates c d a written has =
    let few = (within-limits s lawful).few_slots in
    let at = slot_gate_at s half 0 in
    let now = gates_in_clearing s half 0 used lawful two (omega (arith, fits)) c d a gates has in
    let more = gates_in s.slots (page_of (places.gate_page s half) d) in
    let after = replicate {A = ℕ} used 0 ++ drop used gates in
    let long : length after ≡ s.slots = omega (arith, length-append (replicate {A = ℕ} used 0) (drop used gates), length-replicate {A = ℕ} used 0, length-drop used gates, has.count, fits) in
    let page_long : length (page_of (places.gate_page s half) c) ≡ 4096 = ap length has.page ∙ length-gate_spelling half gates (omega (arith, has.count, few)) in
    let low : at ≤ length c = omega (arith, page_long, length-take 4096 (drop (places.gate_page s half * 4096) c), length-drop (places.gate_page s half * 4096) c, gate_at_is s half 0) in
    let zeros : take used (drop at d) ≡ replicate {A = ℕ} used 0 = ap (λ (n : ℕ). take n (drop at d)) (sym (length-replicate {A = ℕ} used 0)) ∙ part_written c at (replicate used 0) d low written in
    let same : more ≡ after = ext_get_or 0 more after (now.count ∙ sym long) (λ i h.
    let less : i < s.slots = omega (arith, h, now.count) in
    elim (closed_or_not i used) [
      | inl closed ↦
          let place : slot_gate_at s half i ≡ at + i = omega (arith, gate_at_is s half i, gate_at_is s half 0) in
          let zero_there : slice_index d (at + i) ≡ 0 = sym (get_or-drop at d i 0) ∙ sym (get_or-take used (drop at d) i 0 closed) ∙ ap (λ (bytes : List ℕ). get_or bytes i 0) zeros ∙ get_or-replicate used i 0 0 closed in
          gate_is_byte s half few i more d less now ∙ ap (slice_index d) place ∙ zero_there ∙ sym (get_or_append_left (replicate used 0) (drop used gates) 0 i (omega (arith, closed, length-replicate {A = ℕ} used 0)) ∙ get_or-replicate used i 0 0 closed)
      | inr beside ↦
          let k = i - used in
          let place : used + k ≡ i = omega (arith, beside) in
          other_gates_in_clearing s half 0 used lawful two (omega (arith, fits)) c d a gates more has now i less (inr (omega (arith, beside))) ∙ ap (slice_index gates) (sym place) ∙ sym (get_or-drop used gates k 0) ∙ sym (get_or-append_right (replicate {A = ℕ} used 0) (drop used gates) used i 0 (length-replicate {A = ℕ} used 0) beside)
    ]) in
    subst (λ (gs : List ℕ). HasGatesOf s d half gs) same now
  where
    closed_or_not : (i n : ℕ) → (i < n) ⊎ (n ≤ i)
    closed_or_not i n = grind arith
