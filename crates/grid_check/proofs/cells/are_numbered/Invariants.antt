use Rattle.std.proofs.Common.{◌<◌, ◌+◌, ◌*◌, ℕ, slice_index}
use Rattle.grid_types.specs.declared.sizes.TheConstants.{WORDS_ON_PAGE}
use Rattle.grid_check.specs.Rules.{IsNumbered}
use Rattle.grid_check.proofs.cells.are_numbered.Given as goal

abbrev pub invariant-loop-i : goal.invariant-loop-i
invariant-loop-i l = record {
  each : (i : ℕ) → i < l.i → IsNumbered l.table.items (slice_index l.names (WORDS_ON_PAGE * l.part + i));
}
