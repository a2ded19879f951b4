use Rattle.std.proofs.Common.{◌≡◌, ◌*◌, drop}
use Rattle.grid_model.specs.Lawful.{cells_of_counts}
use Rattle.root_pages.proofs.lawful.cells_of.Given as goal

abbrev pub invariant-loop-a : goal.invariant-loop-a
invariant-loop-a l = l.cells * cells_of_counts (drop l.a l.boundaries) ≡ cells_of_counts l.boundaries
