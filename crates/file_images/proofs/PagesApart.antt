-- Where the pages of a file lie to each other, and where its gates stand.
use Rattle.std.proofs.Common.{◌≢◌, ◌<◌, ◌≤◌, ◌⊎◌, inl, inr, ℕ, IsTrue, arith}
use Rattle.grid_types.specs.declared.shape.Shape.{Shape}
use Rattle.grid_types.specs.Ranges.{slot_ranges}
use Rattle.grid_types.specs.Shapes.{is_shape, area_pages, table_page, slot_page, data_page, slot_gate_at}
use Rattle.grid_types.specs.Shapes as places
use Rattle.grid_types.proofs.Places.{within-limits, gate-page, gate-page-lies, slot-page-lies, table-page-lies, gates-apart, gate-off-slots}
use Rattle.disk_trait.specs.Moments.{IsOutside}

-- data pages lie behind the first of them
pub data_low : (s : Shape) (p : ℕ) → data_page s 0 ≤ data_page s p
unfolding data_page
data_low s p = omega arith

-- data pages of two indices are different ones
pub data_apart : (s : Shape) (p q : ℕ) → p ≢ q → data_page s p ≢ data_page s q
unfolding data_page
data_apart s p q apart e = apart (omega (arith, e))

module _ (s : Shape) (lawful : IsTrue (is_shape s)) where
  pub few : s.slots ≤ 4000
  few = (within-limits s lawful).few_slots

  pub some_slots : 1 ≤ s.slots
  some_slots = (within-limits s lawful).some_slots

  pub table_below : (area i half : ℕ) → area < 2 → half < 2 → i < area_pages s → table_page s area i < places.gate_page s half
  table_below area i half two too lt = omega (arith, (table-page-lies s area i lawful two lt).last, (gate-page-lies s half lawful too).behind)

  pub gate_high : (half : ℕ) → half < 2 → 2 ≤ places.gate_page s half
  gate_high half two = omega (arith, (gate-page s).0, (gate-page-lies s half lawful two).behind)

  pub gate_below : (half p : ℕ) → half < 2 → places.gate_page s half < data_page s p
  gate_below half p two =
      let at = slot-page-lies s half 0 lawful two (omega (arith, some_slots)) in
      omega (arith, at.behind, at.before, data_low s p)

  pub slot_below : (half i p : ℕ) → half < 2 → i < s.slots → slot_page s half i < data_page s p
  slot_below half i p two lt = omega (arith, (slot-page-lies s half i lawful two lt).before, data_low s p)

  pub slot_high : (half i : ℕ) → half < 2 → i < s.slots → places.gate_page s half < slot_page s half i
  slot_high half i two lt = (slot-page-lies s half i lawful two lt).behind

  -- the gate of another slot is no byte of a slot's page or gate
  pub gate_off_ranges : (h i half slot : ℕ) → h < 2 → half < 2 → i < s.slots → slot < s.slots → (h ≢ half) ⊎ (i ≢ slot) → IsOutside (slot_ranges s half slot) (slot_gate_at s h i)
  gate_off_ranges h i half slot two too lt less apart = (
    elim (gate-off-slots s h i half slot few two too lt less) [ inl below ↦ inl (omega (arith, below)) | inr above ↦ inr (omega (arith, above)) ],
    (elim (gates-apart s h i half slot few two too lt less apart) [ inl below ↦ inl (omega (arith, below)) | inr above ↦ inr (omega (arith, above)) ], tt),
  )
