-- For which damage a file is refused before its data pages are read: the first, in one order.
use Rattle.std.specs.Prelude.{◌≡◌, ◌≢◌, ◌⊎◌, ℕ, List}
use Rattle.grid_types.specs.declared.shape.Shape.{Shape}
use Rattle.grid_types.specs.declared.refusal.Refusal.{Refusal}
use Rattle.grid_types.specs.declared.refusal.Refusal.TheVariants as refusal
use Rattle.grid_model.specs.Spellings.{RootFields}
use Rattle.grid_model.specs.Images.{HasShape, IsNewest}
use Rattle.grid_model.specs.Roots.{WholeRoot, IsNewestWhole}
use Rattle.journal_slots.specs.Scans.{IsFirstBadPage}
use Rattle.file_roots.specs.Damage.{IsRootDamage}
use Rattle.recovery.specs.Beginnings.{IsShapeFault}

-- an image is a file of another number of attributes
pub record IsOtherArity (K : ℕ) (image : List ℕ) (found : ℕ) : Type 0 where
  pub shape : Shape
  pub has : HasShape found image shape
  pub other : found ≢ K

-- no page of a half of the journal is bad
abbrev pub IsGoodHalf : ℕ → Shape → List ℕ → ℕ → Type 0
IsGoodHalf K s image half = (page : ℕ) → IsFirstBadPage K s image half page → ⊥

-- the journal is damaged, and this page is the one that is named: the first bad one of the first half, or else of the second
abbrev pub IsJournalDamage : ℕ → Shape → List ℕ → ℕ → Type 0
IsJournalDamage K s image page = IsFirstBadPage K s image 0 page ⊎ (IsGoodHalf K s image 0 × IsFirstBadPage K s image 1 page)

-- the newest root of a file is whole, its journal is damaged, and this page is the one that is named
pub record HasBadJournal (K : ℕ) (s : Shape) (image : List ℕ) (page : ℕ) : Type 0 where
  pub root : WholeRoot
  pub whole : IsNewestWhole s root image
  pub damage : IsJournalDamage K s image page

-- an image is a file of K attributes, and damaged behind its shape, with this page as the one that is named: its roots are, or else its journal
pub record IsDamagedBehind (K : ℕ) (image : List ℕ) (page : ℕ) : Type 0 where
  pub shape : Shape
  pub has : HasShape K image shape
  pub damage : IsRootDamage shape image page ⊎ HasBadJournal K shape image page

-- an image is refused as a file of K attributes, and this is the refusal that says why: it has no shape, or one of another number of attributes, or is damaged behind its shape; of all that holds the first in this order
abbrev pub IsFirstFault : ℕ → List ℕ → Refusal → Type 0
IsFirstFault K image (refusal.Arity found) = IsOtherArity K image found
IsFirstFault K image (refusal.Damaged page) = IsShapeFault image (refusal.Damaged page) ⊎ IsDamagedBehind K image page
IsFirstFault K image other = IsShapeFault image other

-- a refusal says nothing of the image, since a read failed or memory was wanting, or it is the first fault
abbrev pub IsNoFaultOr : (Refusal → Type 0) → Refusal → Type 0
IsNoFaultOr fault e = (e ≡ refusal.ReadFault) ⊎ ((e ≡ refusal.NoMemory) ⊎ fault e)

-- an image is a file of K attributes, and has a newest root
pub record HasNewestRoot (K : ℕ) (image : List ℕ) : Type 0 where
  pub shape : Shape
  pub has : HasShape K image shape
  pub root : RootFields
  pub newest : IsNewest shape image root
