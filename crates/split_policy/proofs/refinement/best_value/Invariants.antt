use Rattle.std.proofs.Common.{◌≡◌, take}
use Rattle.split_policy.specs.Rows.{keys_of, numbers_in}
use Rattle.split_policy.specs.Candidates.{dividing, best_of}
use Rattle.split_policy.proofs.refinement.best_value.Given as goal

abbrev pub invariant-loop-row : goal.invariant-loop-row
invariant-loop-row g l = l.best ≡ best_of (keys_of l.rows) (dividing (keys_of l.rows) l.a (take l.row-index (numbers_in (keys_of l.rows) l.a)))
