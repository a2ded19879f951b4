-- What the definitions of the spelling and of a commit promise.
use Rattle.std.specs.Prelude.{◌≡◌, ◌≤◌, ℕ, List}
use Rattle.grid_types.specs.declared.shape.Shape.{Shape}
use Rattle.grid_types.specs.Ranges.{slot_ranges}
use Rattle.disk_trait.specs.Moments.{AgreesOutside}
use Rattle.grid_model.specs.Spellings.{LoggedBatch}
use Rattle.grid_model.specs.Images.{SpellsBatch}
use Rattle.grid_model.specs.Slots.{IsClosed, CountsWholeOrNot}
use Rattle.journal_slots.specs.Committing.{BatchStep}

-- no page spells two batches
abbrev pub SpellsOneBatch : ℕ → Type 0
SpellsOneBatch K = (page : List ℕ) (a b : LoggedBatch K) → K ≤ 4 → SpellsBatch page a → SpellsBatch page b → a ≡ b

-- where the gate was closed, a step of a commit leaves an image in which the batch counts as a whole or not at all
abbrev pub CommitsWholeOrNot : ℕ → Type 0
CommitsWholeOrNot K = (s : Shape) (half slot : ℕ) (b : LoggedBatch K) (old new : List ℕ) → BatchStep s half slot b old new → IsClosed s half slot old → CountsWholeOrNot s half slot b new

-- a step of a commit changes nothing but the slot's page and its gate
abbrev pub CommitsNothingElse : ℕ → Type 0
CommitsNothingElse K = (s : Shape) (half slot : ℕ) (b : LoggedBatch K) (old new : List ℕ) → BatchStep s half slot b old new → AgreesOutside (slot_ranges s half slot) old new
