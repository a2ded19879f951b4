use Rattle.std.proofs.Common.{◌≡◌, length}
use Rattle.shadow_directory.proofs.tests.changed.pages_of.Given as goal

abbrev pub invariant-loop-part : goal.invariant-loop-part
invariant-loop-part g l = length l.before.items ≡ l.part
