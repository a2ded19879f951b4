-- What each moment of a commit leaves: first the slot's page is written, then its gate is opened.
use Rattle.std.proofs.Common.{◌≡◌, ◌<◌, ◌≤◌, ◌⊎◌, inl, inr, ◌+◌, ◌*◌, ℕ, List, [], ◌∷◌, length, slice_index, sym, ap, subst, ◌∙◌, arith}
use Rattle.grid_types.specs.declared.shape.Shape.{Shape}
use Rattle.grid_types.specs.Ranges.{slot_ranges}
use Rattle.grid_types.specs.Shapes.{is_shape, file_pages, slot_page, slot_gate_at}
use Rattle.std.specs.Prelude.{IsTrue}
use Rattle.grid_types.proofs.Places.{within-limits, gate-off-slots, gate-page-lies}
use Rattle.disk_trait.specs.Disk.{Agrees, Holds}
use Rattle.disk_trait.specs.declared.disk.Disk.{Ghosts}
use Rattle.disk_trait.specs.Moments.{Always, AgreesOutside, LeavesOnly}
use Rattle.disk_trait.specs.Calls.{Changes, IsSynced}
use Rattle.disk_trait.proofs.Calls.{changes_then}
use Rattle.disk_trait.proofs.Moments.{weakened}
use Rattle.disk_trait.proofs.Pages.{page_apart, byte_apart, page_written, byte_written}
use Rattle.disk_trait.proofs.Ranges.{outside_one, outside_more, outside_then}
use Rattle.grid_types.specs.Pages.{page_of}
use Rattle.grid_types.specs.declared.sizes.TheConstants.{PAGE_BYTES}
use Rattle.grid_model.specs.Spellings.{LoggedBatch, slot_spelling}
use Rattle.grid_model.specs.Lawful.{IsBatch}
use Rattle.grid_model.specs.Slots.{IsClosed, HasBatch, CountsWholeOrNot, IsCommitted}
use Rattle.journal_slots.specs.Committing.{BatchStep}

-- the page of a slot changes, or its gate does
abbrev pub PageStep : Shape → ℕ → ℕ → List ℕ → List ℕ → Type 0
PageStep s half slot = Agrees (slot_page s half slot * 4096) 4096

abbrev pub GateStep : Shape → ℕ → ℕ → List ℕ → List ℕ → Type 0
GateStep s half slot = Agrees (slot_gate_at s half slot) 1

-- a batch stands on its page once the page was written
pub batch_written : {K : ℕ} (s : Shape) (half slot at : ℕ) (b : LoggedBatch K) (old page new : List ℕ) → at ≡ slot_page s half slot → at * PAGE_BYTES ≤ length old → length page ≡ PAGE_BYTES → IsBatch b → page ≡ slot_spelling b
    → Holds old (at * PAGE_BYTES) page new → HasBatch s half slot b new
batch_written s half slot at b old page new is low long fits spelled written = record { lawful = fits; spelled = ap (λ (p : ℕ). page_of p new) (sym is) ∙ page_written old at page new low long written ∙ spelled }

-- where the gate was closed before, the batch counts not at all or as a whole after a step of its commit
pub whole_after_step : {K : ℕ} (s : Shape) (half slot : ℕ) (b : LoggedBatch K) (c d : List ℕ) → BatchStep s half slot b c d → IsClosed s half slot c → CountsWholeOrNot s half slot b d
whole_after_step s half slot b c d step closed = by_gate step.gate where
  by_gate : (slice_index d (slot_gate_at s half slot) ≡ slice_index c (slot_gate_at s half slot)) ⊎ HasBatch s half slot b d → CountsWholeOrNot s half slot b d
  by_gate (inl same) = inl (λ opened. closed (sym same ∙ opened))
  by_gate (inr spelled) = inr spelled

-- what is known of what reads give stands in each image that a crash may leave, once all is on the disk; so a change from there is one of images that have it
pub changes_known : {D : Type 0} {g : Ghosts D} {a b : D} {step : List ℕ → List ℕ → Type 0} (P : List ℕ → Type 0) → (IsTrue (g.honest a) → P (g.seen a)) → IsSynced g a → Changes g step a b → Changes g (λ x y. P x × step x y) a b
changes_known {g = g} {a = a} {b = b} P known synced r =
    let stands : IsTrue (g.honest a) → (k : List ℕ) → g.may_leave a k → P k = λ h k now. subst P (sym (synced.only h k now)) (known h) in
    record {
      extent = r.extent;
      honest = r.honest;
      reads = r.reads;
      writes = r.writes;
      outside = λ h. (known h, r.outside h);
      crash = λ h k now. let was = r.crash h k now in (was.0, was.1, (stands h was.0 was.1, was.2));
      moments = λ h. weakened g.moment g.left_since a b _ _ (r.moments h) (λ k from. (from.0, from.1, (stands h from.0 from.1, from.2)));
    }

module _ (s : Shape) (half slot : ℕ) (lawful : IsTrue (is_shape s)) (two : half < 2) (inside : slot < s.slots) where
  gate_off_page : (slot_gate_at s half slot + 1 ≤ slot_page s half slot * 4096) ⊎ (slot_page s half slot * 4096 + 4096 ≤ slot_gate_at s half slot)
  gate_off_page = gate-off-slots s half slot half slot (within-limits s lawful).few_slots two two inside inside

  -- a gate lies in the file
  pub gate_inside : slot_gate_at s half slot + 1 ≤ file_pages s * 4096
  unfolding slot_gate_at
  gate_inside = omega (arith, (gate-page-lies s half lawful two).inside, inside, (within-limits s lawful).few_slots)

  gate_stays : (c d : List ℕ) → PageStep s half slot c d → slice_index d (slot_gate_at s half slot) ≡ slice_index c (slot_gate_at s half slot)
  gate_stays c d a = byte_apart (slot_page s half slot * 4096) 4096 (slot_gate_at s half slot) c d (grind (arith, gate_off_page)) a

  pub batch_stays : {K : ℕ} (b : LoggedBatch K) (c d : List ℕ) → GateStep s half slot c d → HasBatch s half slot b c → HasBatch s half slot b d
  batch_stays b c d a was =
      record { lawful = was.lawful; spelled = page_apart (slot_gate_at s half slot) 1 (slot_page s half slot) c d (grind (arith, gate_off_page)) a ∙ was.spelled }

  page_elsewhere : (c d : List ℕ) → PageStep s half slot c d → AgreesOutside (slot_ranges s half slot) c d
  page_elsewhere c d a = outside_more _ _ c d (λ i o. (o.0, tt)) (outside_one _ _ c d a)

  gate_elsewhere : (c d e : List ℕ) → PageStep s half slot c d → GateStep s half slot d e → AgreesOutside (slot_ranges s half slot) c e
  gate_elsewhere c d e a b = outside_then _ c d e (page_elsewhere c d a) (outside_more _ _ d e (λ i o. (o.1.0, tt)) (outside_one _ _ d e b))

  -- while the page is written, the gate is as it was
  pub page_step : {K : ℕ} (b : LoggedBatch K) (c d : List ℕ) → PageStep s half slot c d → BatchStep s half slot b c d
  page_step b c d a = record { elsewhere = page_elsewhere c d a; gate = inl (gate_stays c d a) }

  -- while the gate is opened, the batch stands on its page
  pub gate_step : {K : ℕ} (b : LoggedBatch K) (c d e : List ℕ) → PageStep s half slot c d → HasBatch s half slot b d × GateStep s half slot d e → BatchStep s half slot b c e
  gate_step b c d e x y = record { elsewhere = gate_elsewhere c d e x y.1; gate = inr (batch_stays b d e y.1 y.0) }

  -- a commit is a write of the page and a write of the gate, in this order, with a sync behind each
  module _ {D : Type 0} {g : Ghosts D} {K : ℕ} (b : LoggedBatch K) where
    pub batch_changes : (old mid new : D) → Changes g (PageStep s half slot) old mid → IsSynced g mid → (IsTrue (g.honest old) → HasBatch s half slot b (g.seen mid)) → Changes g (GateStep s half slot) mid new → Changes g (BatchStep s half slot b) old new
    batch_changes old mid new page synced spelled gate =
        changes_then (page_step b) (gate_step b) page (changes_known (HasBatch s half slot b) (λ h. spelled (sym page.honest ∙ h)) synced gate)

    -- then it is committed
    pub committed : (mid new : D) → Changes g (GateStep s half slot) mid new → IsTrue (g.honest mid) → HasBatch s half slot b (g.seen mid) → slot_gate_at s half slot ≤ length (g.seen mid) → Holds (g.seen mid) (slot_gate_at s half slot) (1 ∷ []) (g.seen new)
        → IsCommitted s half slot b (g.seen new)
    committed mid new gate told there low opened = record {
      written = batch_stays b (g.seen mid) (g.seen new) (gate.outside told) there;
      opened = byte_written (g.seen mid) (slot_gate_at s half slot) 1 (g.seen new) low opened;
    }

-- what a commit leaves at each moment, where the gate was closed in each image that a crash might have left before
pub whole_at_each_moment : {D : Type 0} {g : Ghosts D} {K : ℕ} (s : Shape) (half slot : ℕ) (b : LoggedBatch K) (old new : D) → Changes g (BatchStep s half slot b) old new → IsTrue (g.honest old) → Always (g.may_leave old) (IsClosed s half slot)
    → LeavesOnly g.moment g.left_since old new (CountsWholeOrNot s half slot b)
whole_at_each_moment {g = g} s half slot b old new changes h closed =
    weakened g.moment g.left_since old new _ _ (changes.moments h) (λ k from. whole_after_step s half slot b from.0 k from.2 (closed from.0 from.1))
