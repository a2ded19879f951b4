use Rattle.std.proofs.Common.{◌≡◌}
use Rattle.disk_memory.specs.Memories.{extent_of}
use Rattle.file_roots.proofs.tests.put_scales.Given as goal

abbrev pub invariant-loop-i : goal.invariant-loop-i
invariant-loop-i l = extent_of l.disk ≡ extent_of l.initial.disk
