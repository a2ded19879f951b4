-- A cell is a list of one interval for each attribute. Each cell has an index in the directory, and a thousand cells make a part.
use Rattle.std.specs.Prelude.{◌≡◌, ℕ, ◌+◌, ◌-◌, ◌*◌, ◌/◌, List, length, map, nat_lt, ◌==◌, if◌then◌else◌, slice_index, slice_set, filter, fold, zip}
use Rattle.std.specs.List.{list_any}
use Rattle.grid_types.specs.Shapes.{word_pages}
use Rattle.grid_types.specs.declared.sizes.TheConstants.{WORDS_ON_PAGE}
use Rattle.grid_types.specs.declared.cell_box.CellBox.{CellBox}
use Rattle.grid_types.specs.declared.region.Region.{Region}
use Rattle.grid_types.specs.Regions.{Within}
use Rattle.grid_types.specs.Lists.{zip_with}
use Rattle.grid_model.specs.Lists.{below, from_to, product, choices}
use Rattle.grid_model.specs.Scales.{interval, intervals, low}

-- how many intervals each attribute has
abbrev pub dims : List (List ℕ) → List ℕ
dims scales = map intervals scales

-- how many cells there are
abbrev pub cells : List (List ℕ) → ℕ
cells scales = product (dims scales)

-- the number of directory parts
abbrev pub parts : List (List ℕ) → ℕ
parts scales = word_pages (cells scales)

-- the cell of a key
abbrev pub cell_of : List (List ℕ) → List ℕ → List ℕ
cell_of scales key = zip_with interval scales key

-- the lowest key of a cell
abbrev pub corner : List (List ℕ) → List ℕ → List ℕ
corner scales cell = zip_with low scales cell

-- the index of a cell: it begins as 0, and for each attribute in order it becomes itself times the number of intervals, plus the cell's interval
abbrev pub cell_index : List ℕ → List ℕ → ℕ
cell_index ns cell = fold (λ at p. at * p.0 + p.1) 0 (zip ns cell)

-- the directory part of a cell
abbrev pub part_of : List (List ℕ) → List ℕ → ℕ
part_of scales cell = cell_index (dims scales) cell / WORDS_ON_PAGE

-- all cells, in the order of their indices
abbrev pub all_cells : List (List ℕ) → List (List ℕ)
all_cells scales = choices (map below (dims scales))

-- the interval that was c before interval i was split in two
abbrev pub interval_before : ℕ → ℕ → ℕ
interval_before i c = if nat_lt i c then c - 1 else c

-- the cell that was this one before interval i of attribute a was split
abbrev pub image_of : List ℕ → ℕ → ℕ → List ℕ
image_of cell a i = slice_set cell a (interval_before i (slice_index cell a))

-- a cell lies in a box of cells where it has an interval for each attribute, none below the low corner's and none above the high corner's
pub record InCellBox {K : ℕ} (b : CellBox K) (cell : List ℕ) : Type 0 where
  pub count : length cell ≡ length b.lo
  pub within : Within b.lo b.hi cell

-- the cells of a region, in the order of their indices
abbrev pub cells_of : {K : ℕ} → List (List ℕ) → Region K → List (List ℕ)
cells_of scales r = choices (zip_with from_to (cell_of scales r.lo) (cell_of scales r.hi))

-- the directory parts that hold a cell of the region
abbrev pub parts_holding : {K : ℕ} → List (List ℕ) → Region K → List ℕ
parts_holding scales r = filter (λ p. list_any (λ cell. part_of scales cell == p) (cells_of scales r)) (below (parts scales))
