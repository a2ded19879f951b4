-- What a page says as a part of the directory.
use Rattle.std.specs.Prelude.{◌≡◌, ◌<◌, ◌≤◌, ◌^◌, ◌+◌, ◌*◌, ◌⊎◌, ℕ, List, ◌++◌, length, drop, slice_index, codes}
use Rattle.page_fields.specs.Fields.{number, bytes_of}
use Rattle.page_fields.specs.Padded.{padded}
use Rattle.grid_model.specs.Spellings.{directory_spelling}

-- the head of a directory page: its kind, its part and how many cells it has, filled up with zeros
unfoldable pub part_head : ℕ → ℕ → List ℕ
part_head part count = padded 96 (codes "GFD1" ++ (bytes_of 4 part ++ bytes_of 4 count))

-- a page spells the cells of a part: it is their directory page, they are at most a thousand, and the part and each cell's bucket are numbers of 32 bits
pub record SpellsPart (part : ℕ) (page cells : List ℕ) : Type 0 where
  pub part_in_range : part < 2 ^ 32
  pub in_range : (i : ℕ) → slice_index cells i < 2 ^ 32
  pub few : length cells ≤ 1000
  pub bytes : page ≡ directory_spelling part cells

-- a page is the directory page of a part with so many cells: there are as many cells that it spells
pub record IsDirectoryPage (part count : ℕ) (page : List ℕ) : Type 0 where
  pub cells : List ℕ
  pub count_is : length cells ≡ count
  pub spelled : SpellsPart part page cells

-- the number in the four bytes of a cell
abbrev pub bucket_in : ℕ → List ℕ → ℕ
bucket_in i page = number 4 (drop (96 + 4 * i) page)

-- the byte at k of a page is not in the four bytes of cell i
abbrev pub IsBeside : ℕ → ℕ → Type 0
IsBeside i k = (k < 96 + 4 * i) ⊎ (96 + 4 * i + 4 ≤ k)
