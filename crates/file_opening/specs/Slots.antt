-- Where a batch stands in the journal of an image.
use Rattle.std.specs.Prelude.{◌≡◌, ◌⊎◌, ◌<◌, ◌+◌, ℕ, List, slice_index}
use Rattle.grid_types.specs.declared.shape.Shape.{Shape}
use Rattle.grid_types.specs.Pages.{page_of}
use Rattle.grid_types.specs.Shapes.{gate_page, slot_page}
use Rattle.grid_model.specs.Images.{SpellsBatch}
use Rattle.grid_model.specs.Spellings.{LoggedBatch}

-- a page spells a batch of a session that begins at a place
pub record SpellsBatchAt (K : ℕ) (bytes : List ℕ) (session first : ℕ) : Type 0 where
  pub batch : LoggedBatch K
  pub spelled : SpellsBatch bytes batch
  pub session_is : batch.session ≡ session
  pub first_is : batch.first ≡ first

-- the gate of a slot in an image is open
abbrev pub IsOpenIn : Shape → List ℕ → ℕ → ℕ → Type 0
IsOpenIn s image half slot = slice_index (page_of (gate_page s half) image) (96 + slot) ≡ 1

-- a page is that of an open slot of a half that spells a batch of a session beginning at a place
pub record IsSlotOf (K : ℕ) (s : Shape) (image : List ℕ) (half session first page : ℕ) : Type 0 where
  pub slot : ℕ
  pub inside : slot < s.slots
  pub opened : IsOpenIn s image half slot
  pub page_is : page ≡ slot_page s half slot
  pub spells : SpellsBatchAt K (page_of page image) session first

-- none of the first open slots of a half spells such a batch
abbrev pub HasNoneBefore : (K : ℕ) → Shape → List ℕ → (half session first slot : ℕ) → Type 0
HasNoneBefore K s image half session first slot = (i : ℕ) → i < slot → IsOpenIn s image half i → SpellsBatchAt K (page_of (slot_page s half i) image) session first → ⊥

-- no open slot of a half spells such a batch
abbrev pub HasNoSlotOf : (K : ℕ) → Shape → List ℕ → (half session first : ℕ) → Type 0
HasNoSlotOf K s image half session first = HasNoneBefore K s image half session first s.slots

-- a page is the one to be named for such a batch: it is on the first half, or on the second where the first has none; and where neither has one it is the first gate page
abbrev pub IsTheSlotOf : (K : ℕ) → Shape → List ℕ → (session first page : ℕ) → Type 0
IsTheSlotOf K s image session first page = IsSlotOf K s image 0 session first page ⊎ (HasNoSlotOf K s image 0 session first × (IsSlotOf K s image 1 session first page ⊎ (HasNoSlotOf K s image 1 session first × (page ≡ gate_page s 0))))
