-- A directory as the list of its cells' buckets, its parts, and what a change makes of them.
use Rattle.std.specs.Prelude.{◌≡◌, ◌<◌, ◌^◌, ◌+◌, ◌*◌, ℕ, List, take, drop, length, slice_index, Option, Some, IsTrue}
use Rattle.grid_types.specs.declared.owner.Owner.{Owner}
use Rattle.grid_types.specs.declared.owner.Owner.TheVariants.{Part}
use Rattle.grid_types.specs.declared.sizes.TheConstants.{WORDS_ON_PAGE}
use Rattle.grid_types.specs.Shapes.{word_pages}
use Rattle.grid_model.specs.Lists.{product, is_among}
use Rattle.grid_model.specs.Cells.{cell_index, image_of, InCellBox}
use Rattle.grid_model.specs.ScaleLaws.{IsCell}
use Rattle.grid_model.specs.Spellings.{directory_spelling}
use Rattle.directory_pages.specs.CellBoxes.{cells_on}
use Rattle.directory_changes.specs.Changes.{dims_after, parts_changed}
use Rattle.directory_changes.specs.declared.change.DirectoryChange.{DirectoryChange}
use Rattle.directory_changes.specs.declared.change.DirectoryChange.TheVariants.{Nothing, Patch, Grow}

-- the cells of a part of a directory: a thousand, the last part what is left
abbrev pub part_of : List ℕ → ℕ → List ℕ
part_of D p = take WORDS_ON_PAGE (drop (WORDS_ON_PAGE * p) D)

-- pages spell a directory: each cell has a bucket of 32 bits, and each part's page spells its cells
pub record SpellDirectory (ns D : List ℕ) (pages : Owner → Option (List ℕ)) : Type 0 where
  pub count : length D ≡ product ns
  pub in_range : (i : ℕ) → slice_index D i < 2 ^ 32
  pub each : (p : ℕ) → p < word_pages (product ns) → pages (Part p) ≡ Some (directory_spelling p (part_of D p))

-- where a change finds the bucket of a cell: before a growth the cell was its image
abbrev pub source_of : {K : ℕ} → DirectoryChange K → List ℕ → List ℕ
source_of Nothing cell = cell
source_of (Patch b x) cell = cell
source_of (Grow a i b x) cell = image_of cell a i

-- a change gives the cell another bucket: it lies in its box
abbrev pub Names : {K : ℕ} → DirectoryChange K → List ℕ → Type 0
Names Nothing cell = ⊥
Names (Patch b x) cell = InCellBox b cell
Names (Grow a i b x) cell = InCellBox b cell

-- the bucket that it gives
abbrev pub bucket_of : {K : ℕ} → DirectoryChange K → ℕ
bucket_of Nothing = 0
bucket_of (Patch b x) = x
bucket_of (Grow a i b x) = x

-- the cells of a part after a change of a directory: those that it names have its bucket, and each other one that of what it was
pub record IsPartAfter {K : ℕ} (ns : List ℕ) (change : DirectoryChange K) (D : List ℕ) (part : ℕ) (after : List ℕ) : Type 0 where
  pub count : length after ≡ cells_on (dims_after ns change) part
  pub named : (k : ℕ) (cell : List ℕ) → k < length after → IsCell (dims_after ns change) cell → cell_index (dims_after ns change) cell ≡ WORDS_ON_PAGE * part + k → Names change cell → slice_index after k ≡ bucket_of change
  pub others : (k : ℕ) (cell : List ℕ) → k < length after → IsCell (dims_after ns change) cell → cell_index (dims_after ns change) cell ≡ WORDS_ON_PAGE * part + k → (Names change cell → ⊥) → slice_index after k ≡ slice_index D (cell_index ns (source_of change cell))

-- these are the cells of each part that a change renews, after it
abbrev pub AreAfter : {K : ℕ} → List ℕ → DirectoryChange K → List ℕ → (ℕ → List ℕ) → Type 0
AreAfter ns change D after = (p : ℕ) → IsTrue (is_among (parts_changed ns change) p) → IsPartAfter ns change D p (after p)
