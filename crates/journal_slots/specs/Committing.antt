-- What a commit does to an image.
use Rattle.std.specs.Prelude.{◌≡◌, ◌⊎◌, ℕ, List, slice_index}
use Rattle.grid_types.specs.declared.shape.Shape.{Shape}
use Rattle.grid_types.specs.Ranges.{slot_ranges}
use Rattle.grid_types.specs.Shapes.{slot_gate_at}
use Rattle.disk_trait.specs.Moments.{AgreesOutside}
use Rattle.grid_model.specs.Spellings.{LoggedBatch}
use Rattle.grid_model.specs.Slots.{HasBatch}

-- each image left is one from before but for the slot's page and its gate; and its gate is as in that image, or its slot spells the batch
pub record BatchStep {K : ℕ} (s : Shape) (half slot : ℕ) (b : LoggedBatch K) (old new : List ℕ) : Type 0 where
  pub elsewhere : AgreesOutside (slot_ranges s half slot) old new
  pub gate : (slice_index new (slot_gate_at s half slot) ≡ slice_index old (slot_gate_at s half slot)) ⊎ HasBatch s half slot b new
