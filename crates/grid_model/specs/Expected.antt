-- Which page is the expected one, as far as what was read of it goes.
use Rattle.std.specs.Prelude.{◌≡◌, ◌<◌, ℕ, List, length, slice_index, IsTrue}
use Rattle.grid_types.specs.declared.shape.Shape.{Shape}
use Rattle.grid_types.specs.Keys.{IsKey}
use Rattle.grid_types.specs.Regions.{contains}
use Rattle.grid_model.specs.Lists.{is_among}
use Rattle.grid_model.specs.Cells.{cell_of}
use Rattle.grid_model.specs.Spellings.{directory_spelling, BucketOf}
use Rattle.grid_model.specs.Buckets.{SpellsBucket}

-- for what a bucket page is read: a key, or a cell under some scales
pub data Sought : Type 0 where
  SoughtKey : List ℕ → Sought
  SoughtCell : List (List ℕ) → List ℕ → Sought

-- a key is sought where it is that key, or one of K numbers in that cell
abbrev pub IsSought : ℕ → Sought → List ℕ → Type 0
IsSought K (SoughtKey key) k = k ≡ key
IsSought K (SoughtCell scales cell) k = IsKey K k × (cell_of scales k ≡ cell)

-- a directory page is the expected one of a part, as far as the cell that was read goes: it is spelled with as many cells as the part has, and that cell names one of these bucket numbers
pub record IsExpectedPart (bytes : List ℕ) (part count : ℕ) (numbers : List ℕ) (read : ℕ) (cells : List ℕ) : Type 0 where
  pub spelled : bytes ≡ directory_spelling part cells
  pub count_is : length cells ≡ count
  pub inside : read < count
  pub named : IsTrue (is_among numbers (slice_index cells read))

-- a bucket page is the expected one: it is spelled for that number, and its region has each key that is sought
pub record IsExpectedBucket {K : ℕ} (s : Shape) (bytes : List ℕ) (number : ℕ) (sought : Sought) (b : BucketOf K) : Type 0 where
  pub spelled : SpellsBucket s.capacity bytes b
  pub number_is : b.number ≡ number
  pub inside : (k : List ℕ) → IsSought K sought k → IsTrue (contains b.box.region k)
