use Rattle.std.proofs.Common.{◌≡◌, ◌<◌, ◌-◌, ℕ, List, slice_index}
use Rattle.grid_model.specs.Lists.{product}
use Rattle.grid_model.specs.Cells.{cell_index, InCellBox}
use Rattle.grid_check.proofs.covers.all_name.Given as goal

abbrev pub invariant-cells : goal.invariant-cells
invariant-cells g l = record {
  is_in : InCellBox l.cells l.cell;
  before : (c : List ℕ) → InCellBox l.cells c → cell_index l.dims.intervals c < cell_index l.dims.intervals l.cell → slice_index l.names (cell_index l.dims.intervals c) ≡ l.number;
}

abbrev pub decreases-cells : goal.decreases-cells
decreases-cells g l = product l.dims.intervals - cell_index l.dims.intervals l.cell
