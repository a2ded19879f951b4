use Rattle.std.proofs.Common.{◌≡◌}
use Rattle.disk_memory.specs.Memories.{extent_of}
use Rattle.file_roots.proofs.tests.damage.is_named_in_a_large_file.Given as goal

abbrev pub invariant-loop-case : goal.invariant-loop-case
invariant-loop-case g l = extent_of l.disk ≡ extent_of l.initial.disk
