-- What an image shows of all that a file keeps.
use Rattle.std.specs.Prelude.{◌≡◌, ◌≢◌, ◌⊎◌, ◌<◌, ◌≤◌, ◌+◌, ℕ, List, length, slice_get, slice_index, Option, Some, ⊤}
use Rattle.grid_types.specs.declared.shape.Shape.{Shape}
use Rattle.grid_types.specs.Pages.{page_of}
use Rattle.grid_types.specs.Shapes.{data_page, slot_gate_at}
use Rattle.grid_types.specs.Shapes as places
use Rattle.grid_model.specs.Images.{HasShape}
use Rattle.grid_model.specs.Roots.{WholeRoot, IsReady, IsReplaceable}
use Rattle.grid_model.specs.Slots.{HasBatch}
use Rattle.journal_slots.specs.Gates.{IsGatePage}
use Rattle.file_images.specs.Kept.{GateRule, Counting, Barred, Either, PlacedBatch, OtherHeader, ShutHeader, LooseHeader, NextSlot, Shut, Flying, InDoubt, Kept, on_half, used}

-- the current half is one of two, and no half has more used slots than slots
pub record HasSizes {K : ℕ} (k : Kept K) : Type 0 where
  pub two : k.half < 2
  pub first : length k.first ≤ k.shape.slots
  pub second : length k.second ≤ k.shape.slots

-- the root stands, and beside it the next one may be written and opened, where the other header page is closed; where it is loose, it may be closed and written
abbrev pub ShowsRoots : Shape → WholeRoot → OtherHeader → List ℕ → Type 0
ShowsRoots s root ShutHeader image = IsReady s (root.fields.number + 1) (Some root) image
ShowsRoots s root (LooseHeader tried) image = IsReplaceable s (root.fields.number + 1) (Some root) tried image

-- data pages hold these bytes, where there are some
abbrev pub HoldsPages : Shape → List (Option (List ℕ)) → List ℕ → Type 0
HoldsPages s pages image = (p : ℕ) (bytes : List ℕ) → slice_get pages p ≡ Some (Some bytes) → page_of (data_page s p) image ≡ bytes

-- the gate of a slot in an image
abbrev pub gate_in : Shape → ℕ → ℕ → List ℕ → ℕ
gate_in s h i image = slice_index image (slot_gate_at s h i)

-- a gate is as it is asked to be
abbrev pub Obeys : GateRule → ℕ → Type 0
Obeys Counting gate = gate ≡ 1
Obeys Barred gate = gate ≢ 1
Obeys Either gate = ⊤

-- a slot spells its batch, and its gate is as it is asked to be
pub record ShowsPlaced {K : ℕ} (s : Shape) (h i : ℕ) (p : PlacedBatch K) (image : List ℕ) : Type 0 where
  pub spelled : HasBatch s h i p.batch image
  pub gate : Obeys p.gate (gate_in s h i image)

-- what the slot behind the used ones shows: a gate that is 0; or anything; or the batch in doubt, where its gate is not 0
abbrev pub ShowsNext : {K : ℕ} → Shape → ℕ → ℕ → NextSlot K → List ℕ → Type 0
ShowsNext s h i Shut image = gate_in s h i image ≡ 0
ShowsNext s h i Flying image = ⊤
ShowsNext s h i (InDoubt b) image = (gate_in s h i image ≡ 0) ⊎ HasBatch s h i b image

-- a slot is neither used nor the next one
pub record IsUnused {K : ℕ} (k : Kept K) (h i : ℕ) : Type 0 where
  pub two : h < 2
  pub inside : i < k.shape.slots
  pub behind : used k h ≤ i
  pub apart : (h ≢ k.half) ⊎ (i ≢ used k k.half)

-- an image shows what a file keeps: the shape; the roots; each data page that always holds something; both gate pages, spelled; each used slot; the gates behind these, which are 0; and the next slot
pub record Shows {K : ℕ} (k : Kept K) (image : List ℕ) : Type 0 where
  pub sizes : HasSizes k
  pub shape : HasShape K image k.shape
  pub roots : ShowsRoots k.shape k.root k.other image
  pub pages : HoldsPages k.shape k.always image
  pub formed : (h : ℕ) → h < 2 → IsGatePage h k.shape.slots (page_of (places.gate_page k.shape h) image)
  pub slots : (h i : ℕ) (p : PlacedBatch K) → h < 2 → slice_get (on_half k h) i ≡ Some p → ShowsPlaced k.shape h i p image
  pub unused : (h i : ℕ) → IsUnused k h i → gate_in k.shape h i image ≡ 0
  pub next : used k k.half < k.shape.slots → ShowsNext k.shape k.half (used k k.half) k.next image
