use Rattle.std.proofs.Common.{◌≡◌, ◌≤◌, length, take}
use Rattle.grid_model.specs.Lawful.{pages_named}
use Rattle.file_roots.proofs.root.count_named.Given as goal

abbrev pub invariant-loop-page : goal.invariant-loop-page
invariant-loop-page l = (l.count ≡ length (pages_named (take l.page-index l.table))) × (l.count ≤ l.page-index)
