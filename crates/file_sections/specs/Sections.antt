-- What each section of a file takes of what is kept, and what it shows meanwhile.
use Rattle.std.specs.Prelude.{◌≡◌, ◌≢◌, ℕ, List, slice_get, Some, IsTrue}
use Rattle.grid_types.specs.declared.shape.Shape.{Shape}
use Rattle.disk_trait.specs.declared.disk.Disk.{Ghosts}
use Rattle.disk_trait.specs.Moments.{LeavesOnly}
use Rattle.grid_model.specs.Spellings.{RootFields}
use Rattle.grid_model.specs.Roots.{WholeRoot, AreRootFields, HasAreaOf}
use Rattle.file_images.specs.Kept.{ShutHeader, Kept, used, next_number}
use Rattle.file_images.specs.Shows.{Shows}

-- at each moment of a call a crash leaves an image that shows what is kept
abbrev pub StaysShown : {K : ℕ} {D : Type 0} → Ghosts D → Kept K → D → D → Type 0
StaysShown g k old new = IsTrue (g.honest old) → LeavesOnly g.moment g.left_since old new (Shows k)

-- a data page of a file of this shape always holds nothing that is known
pub record IsUnkept {K : ℕ} (k : Kept K) (s : Shape) (page : ℕ) : Type 0 where
  pub shape : k.shape ≡ s
  pub nothing : (bytes : List ℕ) → slice_get k.always page ≢ Some (Some bytes)

-- a half of a file of this shape is not current, and has so many used slots
pub record IsIdleHalf {K : ℕ} (k : Kept K) (s : Shape) (half slots : ℕ) : Type 0 where
  pub shape : k.shape ≡ s
  pub apart : half ≢ k.half
  pub used_is : used k half ≡ slots

-- the root behind the kept one has this number in a file of this shape
pub record IsNextNumber {K : ℕ} (k : Kept K) (s : Shape) (number : ℕ) : Type 0 where
  pub shape : k.shape ≡ s
  pub number_is : next_number k ≡ number

-- the header page of the root behind the kept one, of this number, is closed
pub record AwaitsNumber {K : ℕ} (k : Kept K) (s : Shape) (number : ℕ) : Type 0 where
  pub next : IsNextNumber k s number
  pub shut : k.other ≡ ShutHeader

-- a new root has these fields, which are lawful, and its header page is closed
pub record AwaitsRoot {K : ℕ} (k : Kept K) (s : Shape) (fields : RootFields) (new : WholeRoot) : Type 0 where
  pub awaits : AwaitsNumber k s fields.number
  pub fields_are : new.fields ≡ fields
  pub lawful : AreRootFields s new.fields

-- the table area of a new root stands in what a disk that tells its content reads as
abbrev pub AreaReads : {D : Type 0} → Ghosts D → Shape → WholeRoot → D → Type 0
AreaReads g s new disk = IsTrue (g.honest disk) → HasAreaOf s new (g.seen disk)
