use Rattle.std.proofs.Common.{◌≡◌, [], replicate}
use Rattle.linear_scales.proofs.scales.Scales.new.Given as goal

abbrev pub invariant-loop-a : goal.invariant-loop-a
invariant-loop-a g l = l.scales.items ≡ replicate l._a (record { boundaries = []; limit = l.limit })
