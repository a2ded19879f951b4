use Rattle.std.proofs.Common.{◌≡◌}
use Rattle.linear_scales.proofs.tests.scale_of.Given as goal

abbrev pub invariant-loop-j : goal.invariant-loop-j
invariant-loop-j l = l.scale.limit ≡ 1000
