-- What an image says of one slot of the journal and its gate.
use Rattle.std.specs.Prelude.{◌≡◌, ◌≢◌, ◌⊎◌, ℕ, List, slice_index}
use Rattle.grid_types.specs.declared.shape.Shape.{Shape}
use Rattle.grid_types.specs.Pages.{page_of}
use Rattle.grid_types.specs.Shapes.{slot_page, slot_gate_at}
use Rattle.grid_model.specs.Spellings.{LoggedBatch}
use Rattle.grid_model.specs.Images.{SpellsBatch}

-- the gate of a slot is open where it is 1
abbrev pub IsOpen : Shape → ℕ → ℕ → List ℕ → Type 0
IsOpen s half slot image = slice_index image (slot_gate_at s half slot) ≡ 1

-- the gate of a slot is closed at any other value
abbrev pub IsClosed : Shape → ℕ → ℕ → List ℕ → Type 0
IsClosed s half slot image = slice_index image (slot_gate_at s half slot) ≢ 1

-- a slot's page spells this batch
abbrev pub HasBatch : {K : ℕ} → Shape → ℕ → ℕ → LoggedBatch K → List ℕ → Type 0
HasBatch s half slot b image = SpellsBatch (page_of (slot_page s half slot) image) b

-- the batch counts not at all or as a whole: its gate is closed, or its page spells it
abbrev pub CountsWholeOrNot : {K : ℕ} → Shape → ℕ → ℕ → LoggedBatch K → List ℕ → Type 0
CountsWholeOrNot s half slot b image = IsClosed s half slot image ⊎ HasBatch s half slot b image

-- the batch counts: its page spells it, and its gate is open
pub record IsCommitted {K : ℕ} (s : Shape) (half slot : ℕ) (b : LoggedBatch K) (image : List ℕ) : Type 0 where
  pub written : HasBatch s half slot b image
  pub opened : IsOpen s half slot image
