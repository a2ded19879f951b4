use Rattle.std.proofs.Common.{◌≡◌, ◌*◌}
use Rattle.disk_memory.specs.Memories.{extent_of}
use Rattle.file_making.proofs.tests.holds.Given as goal

abbrev pub invariant-loop-i : goal.invariant-loop-i
invariant-loop-i g l = extent_of l.disk ≡ l.case.disk * 4096
