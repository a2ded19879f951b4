use Rattle.std.proofs.Common.{arith}
use Rattle.grid_model.proofs.Indices.{cell_index-below}
use Rattle.grid_cells.proofs.Products.{step-fits, cell_index-done}
use Rattle.grid_cells.proofs.dims.Dims.index.Goals as goal

pub overflow_mul-at : goal.overflow_mul-at
overflow_mul-at g c = omega (arith, step-fits c.args.self.now.intervals c.args.cell.now c.loop-a.at c.loop-a.a c.args.self.now.lawful c.requires (omega (arith, c.loop-a-test.true)) c.loop-a.invariant)

pub overflow_add-at : goal.overflow_add-at
overflow_add-at g c = omega (arith, step-fits c.args.self.now.intervals c.args.cell.now c.loop-a.at c.loop-a.a c.args.self.now.lawful c.requires (omega (arith, c.loop-a-test.true)) c.loop-a.invariant)

pub returns-clause-below : goal.returns-clause-below
returns-clause-below g c = omega (
  arith,
  cell_index-below c.args.self.now.intervals c.args.cell.now c.requires,
  cell_index-done c.args.self.now.intervals c.args.cell.now c.loop-a.at c.loop-a.a (omega (arith, c.loop-a-test.false)) (omega (arith, c.told-cell, c.loop-a-test.false)) c.loop-a.invariant,
)
