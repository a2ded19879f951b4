use Rattle.grid_cells.proofs.Cells.{Dealt}
use Rattle.grid_cells.proofs.dims.Dims.cell.Given as goal

abbrev pub invariant-loop-a : goal.invariant-loop-a
invariant-loop-a g l = Dealt l.self.intervals l.cell l.a l.size l.rest l.at
