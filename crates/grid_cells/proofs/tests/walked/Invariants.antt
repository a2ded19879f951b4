use Rattle.grid_model.specs.Cells.{InCellBox}
use Rattle.grid_cells.proofs.tests.walked.Given as goal

abbrev pub invariant-loop-i : goal.invariant-loop-i
invariant-loop-i g l = InCellBox l.cells l.cell
