-- The cells of a box of cells that lie on a part, and whether a part holds one of them.
use Rattle.std.specs.Prelude.{◌≡◌, ◌<◌, ◌+◌, ◌-◌, ◌*◌, ◌/◌, ◌%◌, ℕ, List, length, min, slice_index}
use Rattle.grid_types.specs.declared.cell_box.CellBox.{CellBox}
use Rattle.grid_model.specs.Lists.{product}
use Rattle.grid_model.specs.Cells.{cell_index, InCellBox}
use Rattle.grid_model.specs.ScaleLaws.{IsCell}
use Rattle.directory_pages.specs.Spelling.{IsBeside}

-- how many cells a part has: a thousand, or those that are left for it
abbrev pub cells_on : List ℕ → ℕ → ℕ
cells_on ns part = min 1000 (product ns - 1000 * part)

-- a cell of a box of cells lies on a part: it is a cell of the directory, it lies in the box, and its index is on the part
pub record LiesOnPart {K : ℕ} (ns : List ℕ) (b : CellBox K) (part : ℕ) (cell : List ℕ) : Type 0 where
  pub is_cell : IsCell ns cell
  pub inside : InCellBox b cell
  pub on_part : cell_index ns cell / 1000 ≡ part

-- a part holds a cell of a box of cells
pub record HoldsCell {K : ℕ} (ns : List ℕ) (b : CellBox K) (part : ℕ) : Type 0 where
  pub cell : List ℕ
  pub lies : LiesOnPart ns b part cell

-- an index has a cell of a box of cells: some cell of the directory lies in the box and has this index
pub record HasIndex {K : ℕ} (ns : List ℕ) (b : CellBox K) (at : ℕ) : Type 0 where
  pub cell : List ℕ
  pub is_cell : IsCell ns cell
  pub inside : InCellBox b cell
  pub index_is : cell_index ns cell ≡ at

-- the cells of a part after the patch of a box of cells: as many, those whose index has a cell of the box with the bucket, and each other one as it was
pub record IsPatched {K : ℕ} (ns : List ℕ) (b : CellBox K) (part bucket : ℕ) (cells after : List ℕ) : Type 0 where
  pub count : length after ≡ length cells
  pub inside : (i : ℕ) → i < length cells → HasIndex ns b (1000 * part + i) → slice_index after i ≡ bucket
  pub outside : (i : ℕ) → i < length cells → (HasIndex ns b (1000 * part + i) → ⊥) → slice_index after i ≡ slice_index cells i

-- the byte at k of a part's page is in no cell of a box of cells
abbrev pub IsBesideCellBox : {K : ℕ} → List ℕ → CellBox K → ℕ → ℕ → Type 0
IsBesideCellBox ns b part k = (cell : List ℕ) → LiesOnPart ns b part cell → IsBeside (cell_index ns cell % 1000) k
