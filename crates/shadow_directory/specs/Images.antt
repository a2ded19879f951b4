-- The cells of a part as they were before a growth, by their indices.
use Rattle.std.specs.Prelude.{◌≡◌, ◌<◌, ◌≤◌, ◌+◌, ◌*◌, ◌/◌, ◌==◌, ℕ, Bool, List, length, take, filter, slice_index}
use Rattle.std.specs.List.{list_any}
use Rattle.grid_types.specs.declared.sizes.TheConstants.{WORDS_ON_PAGE}
use Rattle.grid_model.specs.Lists.{below, product}
use Rattle.grid_model.specs.Cells.{cell_index, image_of}
use Rattle.grid_model.specs.ScaleLaws.{IsCell}
use Rattle.directory_changes.specs.Changes.{grown}

-- the first n of these are the indices that the cells of a part had before interval i of attribute a was split in two
pub record AreImages (ns new : List ℕ) (a i part n : ℕ) (images : List ℕ) : Type 0 where
  pub below : (k : ℕ) → k < n → slice_index images k < product ns
  pub each : (k : ℕ) (cell : List ℕ) → k < n → IsCell new cell → cell_index new cell ≡ WORDS_ON_PAGE * part + k → slice_index images k ≡ cell_index ns (image_of cell a i)

-- a part is the next from another one on that has one of the first n of these indices: it has one, and none between them does
pub record IsNextNeeded (images : List ℕ) (n from part : ℕ) : Type 0 where
  pub from_on : from ≤ part
  pub place : ℕ
  pub inside : place < n
  pub needed : slice_index images place / WORDS_ON_PAGE ≡ part
  pub least : (k : ℕ) → k < n → from ≤ slice_index images k / WORDS_ON_PAGE → part ≤ slice_index images k / WORDS_ON_PAGE

-- no part from this one on has one of the first n of these indices
abbrev pub IsNoneNeeded : List ℕ → ℕ → ℕ → Type 0
IsNoneNeeded images n from = (k : ℕ) → k < n → slice_index images k / WORDS_ON_PAGE < from

-- whether one of the first n of these indices lies on a part
abbrev pub needs : List ℕ → ℕ → ℕ → Bool
needs images n part = list_any (λ x. x / WORDS_ON_PAGE == part) (take n images)

-- the parts, of so many, that have one of the first n of these indices, ascending
unfoldable pub parts_needed : List ℕ → ℕ → ℕ → List ℕ
parts_needed images n count = filter (needs images n) (below count)

-- a directory is another one in which interval i of attribute a was split in two
pub record IsSplit (ns new : List ℕ) (a i : ℕ) : Type 0 where
  pub attribute : a < length ns
  pub interval : i < slice_index ns a
  pub refined : new ≡ grown ns a
