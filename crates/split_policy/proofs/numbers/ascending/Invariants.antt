use Rattle.std.proofs.Common.{◌≡◌, take}
use Rattle.split_policy.specs.Rows.{keys_of, numbers_in}
use Rattle.split_policy.proofs.numbers.ascending.Given as goal

abbrev pub invariant-loop-row : goal.invariant-loop-row
invariant-loop-row g l = l.numbers.items ≡ numbers_in (keys_of (take l.row-index l.rows)) l.a
