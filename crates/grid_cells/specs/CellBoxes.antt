-- The cells of a box of cells, in the order of their indices.
use Rattle.std.specs.Prelude.{◌<◌, ◌≤◌, ℕ, List}
use Rattle.grid_types.specs.declared.cell_box.CellBox.{CellBox}
use Rattle.grid_model.specs.Cells.{cell_index, InCellBox}

-- a cell follows another in a box of cells: it is the one of the least index above
pub record IsNextInCellBox {K : ℕ} (ns : List ℕ) (b : CellBox K) (cell next : List ℕ) : Type 0 where
  pub inside : InCellBox b next
  pub above : cell_index ns cell < cell_index ns next
  pub least : (other : List ℕ) → InCellBox b other → cell_index ns cell < cell_index ns other → cell_index ns next ≤ cell_index ns other

-- a cell is the last of a box of cells: no cell of the box has an index above it
abbrev pub IsLastInCellBox : {K : ℕ} → List ℕ → CellBox K → List ℕ → Type 0
IsLastInCellBox ns b cell = (other : List ℕ) → InCellBox b other → cell_index ns other ≤ cell_index ns cell
