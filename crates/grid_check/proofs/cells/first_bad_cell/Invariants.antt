use Rattle.grid_check.specs.Reads.{AreNumbered}
use Rattle.grid_check.specs.Rules.{PartsKeep}
use Rattle.grid_check.proofs.cells.first_bad_cell.Given as goal

abbrev pub invariant-loop-part : goal.invariant-loop-part
invariant-loop-part g l = record {
  good : PartsKeep (AreNumbered l.table.items l.names) l.part;
}
