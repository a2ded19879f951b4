use Rattle.std.proofs.Common.{◌≡◌, ◌<◌, ◌≤◌, ℕ, get_or}
use Rattle.linear_scales.specs.Limited.{LimitedScale}
use Rattle.linear_scales.proofs.scales.copy_each.Given as goal

abbrev pub invariant-loop-a : goal.invariant-loop-a
invariant-loop-a l = record {
  done : (k : ℕ) (d : LimitedScale) → k < l.a → get_or l.scales k d ≡ get_or l.others k d;
  rest : (k : ℕ) (d : LimitedScale) → l.a ≤ k → get_or l.scales k d ≡ get_or l.initial.scales k d;
}
