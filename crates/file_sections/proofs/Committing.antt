-- What the commit of a batch, and the clearing of a half, leave of what a file keeps.
use Rattle.std.proofs.Common.{◌≡◌, ◌<◌, ◌≤◌, ◌⊎◌, inl, inr, ◌+◌, ℕ, List, length, take, drop, get_or, slice_index, replicate, IsTrue, sym, ap, subst, ◌∙◌, arith}
use Rattle.std.specs.Prelude.{Result, Ok, Err, OnOk}
use Rattle.std.proofs.lemmas.List.{length-replicate, get_or-replicate, get_or-take, get_or-drop}
use Rattle.grid_types.specs.declared.shape.Shape.{Shape}
use Rattle.grid_types.specs.Shapes.{header_page, slot_gate_at}
use Rattle.grid_types.proofs.Places.{gate-page-lies}
use Rattle.disk_trait.specs.declared.disk.Disk.{Ghosts}
use Rattle.disk_trait.specs.Calls.{Changes, IsSynced}
use Rattle.disk_trait.specs.Disk.{Agrees, Holds}
use Rattle.disk_trait.proofs.Pages.{part_written}
use Rattle.grid_model.specs.Spellings.{LoggedBatch}
use Rattle.grid_model.specs.Images.{header_gate}
use Rattle.grid_model.specs.Slots.{IsCommitted}
use Rattle.journal_slots.specs.Committing.{BatchStep}
use Rattle.journal_slots.proofs.Frames.{gate_at_is}
use Rattle.file_images.specs.Kept.{Kept, used, next_number}
use Rattle.file_images.specs.Shows.{gate_in, Shows}
use Rattle.file_images.specs.Meets.{IsLooseUnder, Meets}
use Rattle.file_images.specs.Steps.{IsNextSlot, with_doubt, with_slot, with_loose, with_shut}
use Rattle.file_images.proofs.Committing.{loose_same, header_gate_same, holds_same, committed_shows, next_inside, next_step_shows, next_outside, next_committed}
use Rattle.file_images.proofs.Clearing.{clearing_shows, cleared_shows, loose_in_clearing, header_in_clearing, holds_in_clearing}
use Rattle.file_sections.specs.Sections.{StaysShown, IsIdleHalf}
use Rattle.file_sections.proofs.Meeting.{told, shown_after, shown_meanwhile, loose_after}

module _ {K : ℕ} {D : Type 0} {g : Ghosts D} (k : Kept K) (s : Shape) (half slot : ℕ) (b : LoggedBatch K) (at : IsNextSlot k s half slot) (inside : slot < s.slots) {old new : D} (r : Changes g (BatchStep s half slot b) old new) (was : Meets g k old) (law : IsTrue (g.honest old) → g.may_leave old (g.seen old)) where
  lt : used k k.half < k.shape.slots
  lt = next_inside k b s half slot at inside

  shown : (c d : List ℕ) → Shows k c → BatchStep s half slot b c d → Shows (with_doubt k b) d
  shown c d shows step = next_step_shows k b s half slot at inside c d shows step

  gate : (c d : List ℕ) → Shows k c → BatchStep s half slot b c d → header_gate d (header_page (next_number k)) ≡ header_gate c (header_page (next_number k))
  gate c d shows step = header_gate_same k c d shows lt (next_outside k b s half slot at inside c d step.elsewhere) (next_number k)

  under : (c d : List ℕ) → Shows k c → BatchStep s half slot b c d → IsLooseUnder k k.other c → IsLooseUnder k k.other d
  under c d shows step = loose_same k c d shows lt (next_outside k b s half slot at inside c d step.elsewhere) k.other

  pub doubt_shown : StaysShown g (with_doubt k b) old new
  doubt_shown = shown_meanwhile k (with_doubt k b) r was shown

  -- with the batch in doubt
  pub doubt_meets : Meets g (with_doubt k b) new
  doubt_meets = record {
    crash = shown_after k (with_doubt k b) r was shown;
    loose = λ h. loose_after k k r was gate under law h;
    fresh = λ h.
        let o = told k k r was h in
        holds_same k (g.seen old) (g.seen new) (was.crash o (g.seen old) (law o)) lt (next_outside k b s half slot at inside (g.seen old) (g.seen new) (r.outside o).elsewhere) k.fresh (was.fresh o);
    reads = omega (arith, was.reads, r.reads);
    writes = omega (arith, was.writes, r.writes);
    size = omega (arith, was.size, r.extent);
  }

  -- with the batch placed
  pub placed_meets : (IsTrue (g.honest old) → IsCommitted s half slot b (g.seen new)) → IsSynced g new → Meets g (with_slot k b) new
  placed_meets done synced = record {
    crash = λ h d now.
        let o = told k k r was h in
        subst (Shows (with_slot k b)) (sym (synced.only h d now))
        (committed_shows k b at.shut lt (g.seen old) (g.seen new) (was.crash o (g.seen old) (law o)) (next_outside k b s half slot at inside (g.seen old) (g.seen new) (r.outside o).elsewhere) (next_committed k b s half slot at inside (g.seen new) (done o)));
    loose = λ h. loose_after k k r was gate under law h;
    fresh = doubt_meets.fresh;
    reads = omega (arith, was.reads, r.reads);
    writes = omega (arith, was.writes, r.writes);
    size = omega (arith, was.size, r.extent);
  }

module _ {K : ℕ} {D : Type 0} {g : Ghosts D} (k : Kept K) (s : Shape) (h n : ℕ) (two : h < 2) (idle : IsIdleHalf k s h n) {old new : D} (r : Changes g (Agrees (slot_gate_at s h 0) n) old new) (was : Meets g k old) (law : IsTrue (g.honest old) → g.may_leave old (g.seen old)) where
  own : (c d : List ℕ) → Agrees (slot_gate_at s h 0) n c d → Agrees (slot_gate_at k.shape h 0) (used k h) c d
  own c d a = subst (λ (z : Shape × ℕ). Agrees (slot_gate_at z.0 h 0) z.1 c d) (λ j. (sym idle.shape j, sym idle.used_is j)) a

  loose_shown : (c d : List ℕ) → Shows k c → Agrees (slot_gate_at s h 0) n c d → Shows (with_loose k h) d
  loose_shown c d shows a = clearing_shows k c d shows h two idle.apart (own c d a)

  clearing_gate : (c d : List ℕ) → Shows k c → Agrees (slot_gate_at s h 0) n c d → header_gate d (header_page (next_number k)) ≡ header_gate c (header_page (next_number k))
  clearing_gate c d shows a = ap (λ (x : List ℕ). slice_index x 64) (header_in_clearing k c d shows h two idle.apart (own c d a) (next_number k))

  clearing_under : (c d : List ℕ) → Shows k c → Agrees (slot_gate_at s h 0) n c d → IsLooseUnder k k.other c → IsLooseUnder k k.other d
  clearing_under c d shows a = loose_in_clearing k c d shows h two idle.apart (own c d a) k.other

  pub loosely_shown : StaysShown g (with_loose k h) old new
  loosely_shown = shown_meanwhile k (with_loose k h) r was loose_shown

  -- with loose gates
  pub loose_meets : Meets g (with_loose k h) new
  loose_meets = record {
    crash = shown_after k (with_loose k h) r was loose_shown;
    loose = λ t. loose_after k k r was clearing_gate clearing_under law t;
    fresh = λ t.
        let o = told k k r was t in
        holds_in_clearing k (g.seen old) (g.seen new) (was.crash o (g.seen old) (law o)) h two idle.apart (own (g.seen old) (g.seen new) (r.outside o)) k.fresh (was.fresh o);
    reads = omega (arith, was.reads, r.reads);
    writes = omega (arith, was.writes, r.writes);
    size = omega (arith, was.size, r.extent);
  }

  -- gates over which zeros were written are 0
  zeros_there : (c d : List ℕ) → slot_gate_at k.shape h 0 ≤ length c → Holds c (slot_gate_at s h 0) (replicate n 0) d → (i : ℕ) → i < used k h → gate_in k.shape h i d ≡ 0
  zeros_there c d low written i lt =
      let at = slot_gate_at k.shape h 0 in
      let n2 = used k h in
      let mine : Holds c at (replicate n2 0) d = subst (λ (z : Shape × ℕ). Holds c (slot_gate_at z.0 h 0) (replicate z.1 0) d) (λ j. (sym idle.shape j, sym idle.used_is j)) written in
      let zeros : take n2 (drop at d) ≡ replicate n2 0 = ap (λ (m : ℕ). take m (drop at d)) (sym (length-replicate {A = ℕ} n2 0)) ∙ part_written c at (replicate n2 0) d low mine in
      let place : slot_gate_at k.shape h i ≡ at + i = omega (arith, gate_at_is k.shape h i, gate_at_is k.shape h 0) in
      ap (slice_index d) place ∙ sym (get_or-drop at d i 0) ∙ sym (get_or-take n2 (drop at d) i 0 lt) ∙ ap (λ (bytes : List ℕ). get_or bytes i 0) zeros ∙ get_or-replicate n2 i 0 0 lt

  gates_inside : (c : List ℕ) → Shows k c → slot_gate_at k.shape h 0 ≤ length c
  gates_inside c shows = omega (arith, gate_at_is k.shape h 0, (gate-page-lies k.shape h shows.shape.lawful two).inside, shows.shape.long)

  split : (m : ℕ) → (m ≡ 0) ⊎ (1 ≤ m)
  split m = grind arith

  -- with no slot used
  pub shut_meets : (IsTrue (g.honest old) → Holds (g.seen old) (slot_gate_at s h 0) (replicate n 0) (g.seen new)) → (1 ≤ n → IsSynced g new) → Meets g (with_shut k h) new
  shut_meets written synced = record {
    crash = λ t d now.
        let o = told k k r was t in
        let seen = was.crash o (g.seen old) (law o) in
        elim (split n) [
          | inl none ↦
              let from = r.crash o d now in
              cleared_shows k from.0 d (was.crash o from.0 from.1) h two idle.apart (own from.0 d from.2) (λ i lt. absurd (omega (arith, lt, none, idle.used_is)))
          | inr some ↦
              subst (Shows (with_shut k h)) (sym ((synced some).only t d now))
              (cleared_shows k (g.seen old) (g.seen new) seen h two idle.apart (own (g.seen old) (g.seen new) (r.outside o)) (zeros_there (g.seen old) (g.seen new) (gates_inside (g.seen old) seen) (written o)))
        ];
    loose = λ t. loose_after k k r was clearing_gate clearing_under law t;
    fresh = loose_meets.fresh;
    reads = omega (arith, was.reads, r.reads);
    writes = omega (arith, was.writes, r.writes);
    size = omega (arith, was.size, r.extent);
  }

  pub cleared_meets : {T E : Type 0} (result : Result T E) → (IsTrue (g.honest old) → OnOk result (Holds (g.seen old) (slot_gate_at s h 0) (replicate n 0) (g.seen new))) → (1 ≤ n → OnOk result (IsSynced g new)) → OnOk result (Meets g (with_shut k h) new)
  cleared_meets (Ok x) written synced = shut_meets written synced
  cleared_meets (Err e) written synced = tt
