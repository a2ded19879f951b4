use Rattle.std.proofs.Common.{◌≡◌, length}
use Rattle.split_policy.proofs.tests.rows_of.Given as goal

abbrev pub invariant-loop-numbers : goal.invariant-loop-numbers
invariant-loop-numbers g l = length l.rows.items ≡ l.numbers-index
