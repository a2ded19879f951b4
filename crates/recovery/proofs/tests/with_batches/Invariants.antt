use Rattle.std.proofs.Common.{◌≡◌, length}
use Rattle.recovery.proofs.tests.with_batches.Given as goal

abbrev pub invariant-loop-page : goal.invariant-loop-page
invariant-loop-page g l = length l.image.items ≡ length l.initial.image.items
