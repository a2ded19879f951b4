use Rattle.std.proofs.Common.{◌≡◌, map}
use Rattle.grid_model.specs.Lone.{record_of}
use Rattle.grid_check.proofs.dumping.rows_of.Given as goal

abbrev pub invariant-loop-numbers : goal.invariant-loop-numbers
invariant-loop-numbers g l = l.list.items ≡ map record_of l.yielded
