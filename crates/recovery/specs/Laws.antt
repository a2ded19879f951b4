-- What the definitions of surveys promise.
use Rattle.std.specs.Prelude.{◌≡◌, ◌+◌, ℕ, List, length}
use Rattle.grid_types.specs.declared.shape.Shape.{Shape}
use Rattle.grid_types.specs.declared.refusal.Refusal.{Refusal}
use Rattle.grid_model.specs.Images.{HasShape, Found, IsFound, updates_taken}
use Rattle.recovery.specs.Beginnings.{IsShapeFault}
use Rattle.recovery.specs.Faults.{IsFirstFault}

-- an image has one answer: where it has a shape, no fault says that it has none; where all that a survey looks for is found, there is no fault; and no image has two first faults
pub record HasOneAnswer (K : ℕ) : Type 0 where
  pub shape : (image : List ℕ) (s : Shape) (e : Refusal) → HasShape K image s → IsShapeFault image e → ⊥
  pub found : (image : List ℕ) (f : Found K) (n : ℕ) (e : Refusal) → IsFound image f n → IsFirstFault K image e → ⊥
  pub fault : (image : List ℕ) (d e : Refusal) → IsFirstFault K image d → IsFirstFault K image e → d ≡ e

-- the place that is reached is the root's front and one more for each update that is taken
abbrev pub CountsUpdates : ℕ → Type 0
CountsUpdates K = (image : List ℕ) (f : Found K) (n : ℕ) → IsFound image f n → n ≡ f.root.front + length (updates_taken f)
