use Rattle.std.proofs.Common.{◌≡◌, drop}
use Rattle.grid_model.specs.Cells.{cell_index}
use Rattle.grid_cells.proofs.Products.{onward}
use Rattle.grid_cells.proofs.dims.Dims.index.Given as goal

abbrev pub invariant-loop-a : goal.invariant-loop-a
invariant-loop-a g l = onward l.at (drop l.a l.self.intervals) (drop l.a l.cell) ≡ cell_index l.self.intervals l.cell
