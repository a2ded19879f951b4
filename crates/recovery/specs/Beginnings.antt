-- Whether an image is a file of a shape, and why it is not.
use Rattle.std.specs.Prelude.{◌≡◌, ◌≢◌, ◌⊎◌, ◌<◌, ◌≤◌, ◌+◌, ◌*◌, ℕ, List, length, take, drop, codes}
use Rattle.grid_types.specs.declared.sizes.TheConstants.{PAGE_BYTES}
use Rattle.grid_types.specs.declared.shape.Shape.{Shape}
use Rattle.grid_types.specs.declared.refusal.Refusal.{Refusal}
use Rattle.grid_types.specs.declared.refusal.Refusal.TheVariants as refusal
use Rattle.grid_types.specs.Pages.{page_of}
use Rattle.grid_types.specs.Shapes.{file_pages}
use Rattle.page_fields.specs.Fields.{number}
use Rattle.root_pages.specs.Headers.{SpellsShape}

-- the version that a header page says, known or not
abbrev pub version_on : List ℕ → ℕ
version_on page = number 2 (drop 8 page)

-- a header page begins with the kind of a grid file
abbrev pub BeginsAsGrid : List ℕ → Type 0
BeginsAsGrid page = take 8 page ≡ codes "GRIDFILE"

-- an image is none of ours: it has fewer than two pages, or page 0 does not begin with the kind of a grid file
abbrev pub IsForeign : List ℕ → Type 0
IsForeign image = (length image < 2 * PAGE_BYTES) ⊎ (BeginsAsGrid (page_of 0 image) → ⊥)

-- an image is one of ours: it has two pages at least, and page 0 begins with the kind of a grid file
pub record IsOurs (image : List ℕ) : Type 0 where
  pub two : 2 * PAGE_BYTES ≤ length image
  pub kind : BeginsAsGrid (page_of 0 image)

-- an image of ours has a version that is not known
pub record HasUnknownVersion (image : List ℕ) (version : ℕ) : Type 0 where
  pub ours : IsOurs image
  pub version_is : version_on (page_of 0 image) ≡ version
  pub unknown : version ≢ 1

-- an image of ours has the known version, and page 0, which is named, begins with no lawful shape
pub record IsShapeless (image : List ℕ) (page : ℕ) : Type 0 where
  pub ours : IsOurs image
  pub version : version_on (page_of 0 image) ≡ 1
  pub none : (s : Shape) → SpellsShape (page_of 0 image) s → ⊥
  pub page_is : page ≡ 0

-- an image begins with a shape and is short: the page that is named is the first of the shape's pages that is not whole
pub record IsShort (image : List ℕ) (page : ℕ) : Type 0 where
  pub shape : Shape
  pub spelled : SpellsShape (page_of 0 image) shape
  pub two : 2 * PAGE_BYTES ≤ length image
  pub inside : page < file_pages shape
  pub whole : page * PAGE_BYTES ≤ length image
  pub cut : length image < page * PAGE_BYTES + PAGE_BYTES

-- an image begins with this shape, and all pages of the shape are there
pub record BeginsWhole (image : List ℕ) (s : Shape) : Type 0 where
  pub spelled : SpellsShape (page_of 0 image) s
  pub long : file_pages s * PAGE_BYTES ≤ length image

-- an image begins with some shape, and all pages of the shape are there
pub record BeginsWithShape (image : List ℕ) : Type 0 where
  pub shape : Shape
  pub begins : BeginsWhole image shape

-- an image begins with a shape and has all its pages, but page 1, which is named, begins with other bytes than page 0
pub record IsUneven (image : List ℕ) (page : ℕ) : Type 0 where
  pub shape : Shape
  pub begins : BeginsWhole image shape
  pub other : take 64 (page_of 1 image) ≢ take 64 (page_of 0 image)
  pub page_is : page ≡ 1

-- an image is no file of any shape, and this is the refusal that says why: the first that holds in this order
abbrev pub IsShapeFault : List ℕ → Refusal → Type 0
IsShapeFault image refusal.Foreign = IsForeign image
IsShapeFault image (refusal.Version found) = HasUnknownVersion image found
IsShapeFault image (refusal.Damaged page) = IsShapeless image page ⊎ (IsShort image page ⊎ IsUneven image page)
IsShapeFault image other = ⊥
