-- Which pages of the journal are different ones.
use Rattle.std.proofs.Common.{◌≢◌, ◌<◌, ◌⊎◌, inl, inr, ℕ, ap}
use Rattle.grid_types.specs.declared.shape.Shape.{Shape}
use Rattle.grid_types.specs.FilePages.{GatePage, SlotPage}
use Rattle.grid_types.specs.Shapes.{gate_page, slot_page}
use Rattle.grid_types.proofs.PageNumbers.{pages-differ, place-of, side-of}

module _ (s : Shape) where
  -- the gate pages of the two halves are different ones
  pub gate_pages_differ : (h half : ℕ) → h < 2 → half < 2 → h ≢ half → gate_page s h ≢ gate_page s half
  gate_pages_differ h half two too apart = pages-differ s (GatePage h) (GatePage half) two too (λ e. apart (ap side-of e))

  is_no_gate_page : (h i half : ℕ) → SlotPage h i ≢ GatePage half
  is_no_gate_page h i half e = cc

  -- no slot page is a gate page
  pub slot_page_is_no_gate_page : (h i half : ℕ) → h < 2 → half < 2 → i < s.slots → slot_page s h i ≢ gate_page s half
  slot_page_is_no_gate_page h i half two too lt = pages-differ s (SlotPage h i) (GatePage half) (two, lt) too (is_no_gate_page h i half)

  -- two slots have different pages
  pub slot_pages_differ : (h i half slot : ℕ) → h < 2 → half < 2 → i < s.slots → slot < s.slots → (h ≢ half) ⊎ (i ≢ slot) → slot_page s h i ≢ slot_page s half slot
  slot_pages_differ h i half slot two too lt less (inl apart) = pages-differ s (SlotPage h i) (SlotPage half slot) (two, lt) (too, less) (λ e. apart (ap side-of e))
  slot_pages_differ h i half slot two too lt less (inr apart) = pages-differ s (SlotPage h i) (SlotPage half slot) (two, lt) (too, less) (λ e. apart (ap place-of e))
