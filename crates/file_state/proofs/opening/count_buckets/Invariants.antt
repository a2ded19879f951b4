use Rattle.std.proofs.Common.{◌≡◌, length, take}
use Rattle.grid_model.specs.Lawful.{pages_named}
use Rattle.file_state.proofs.opening.count_buckets.Given as goal

abbrev pub invariant-loop-page : goal.invariant-loop-page
invariant-loop-page l = l.count ≡ length (pages_named (take l.page-index l.table))
