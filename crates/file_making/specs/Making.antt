-- What is made of a disk, and when nothing is.
use Rattle.std.specs.Prelude.{◌≡◌, ◌⊎◌, ◌<◌, ◌*◌, ℕ, List, false}
use Rattle.grid_types.specs.declared.shape.Shape.{Shape}
use Rattle.grid_types.specs.declared.sizes.TheConstants.{PAGE_BYTES}
use Rattle.grid_types.specs.Shapes.{is_shape, file_pages}
use Rattle.disk_trait.specs.Disk.{Agrees}

-- a file of this shape can't be made on a disk of so many bytes: the shape is not lawful, or the disk has fewer bytes than its pages
abbrev pub CanNotBeMade : Shape → ℕ → Type 0
CanNotBeMade s extent = (is_shape s ≡ false) ⊎ (extent < file_pages s * PAGE_BYTES)

-- two images differ at most in the pages of a file of this shape
abbrev pub FileAlone : Shape → List ℕ → List ℕ → Type 0
FileAlone s old new = Agrees 0 (file_pages s * PAGE_BYTES) old new
