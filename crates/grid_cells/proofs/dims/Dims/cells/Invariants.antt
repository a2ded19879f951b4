use Rattle.std.proofs.Common.{◌≡◌, ◌*◌, drop}
use Rattle.grid_model.specs.Lists.{product}
use Rattle.grid_cells.proofs.dims.Dims.cells.Given as goal

abbrev pub invariant-loop-a : goal.invariant-loop-a
invariant-loop-a g l = l.cells * product (drop l.a l.self.intervals) ≡ product l.self.intervals
