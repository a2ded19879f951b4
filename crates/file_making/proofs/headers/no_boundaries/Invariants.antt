use Rattle.std.proofs.Common.{◌≡◌, replicate}
use Rattle.file_making.proofs.headers.no_boundaries.Given as goal

abbrev pub invariant-loop-a : goal.invariant-loop-a
invariant-loop-a l = l.counts.items ≡ replicate l._a 0
