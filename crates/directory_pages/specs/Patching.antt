-- What a patch makes of the cells of a part.
use Rattle.std.specs.Prelude.{◌<◌, ℕ, List, length, map, slice_index, if◌then◌else◌}
use Rattle.grid_model.specs.Lists.{below, is_among}
use Rattle.directory_pages.specs.Spelling.{IsBeside}

-- each of these is the index of one of n cells
abbrev pub AreCells : ℕ → List ℕ → Type 0
AreCells n indices = (j : ℕ) → j < length indices → slice_index indices j < n

-- the bucket of cell i after a patch: the new one where the cell is among those that are patched, and otherwise the one that it had
abbrev pub bucket_after : List ℕ → ℕ → List ℕ → ℕ → ℕ
bucket_after indices bucket cells i = if is_among indices i then bucket else slice_index cells i

-- the cells after a patch: as many, each with its bucket after it
unfoldable pub patched : List ℕ → ℕ → List ℕ → List ℕ
patched indices bucket cells = map (bucket_after indices bucket cells) (below (length cells))

-- the byte at k of a page is in none of these cells
abbrev pub IsBesideCells : List ℕ → ℕ → Type 0
IsBesideCells indices k = (j : ℕ) → j < length indices → IsBeside (slice_index indices j) k
