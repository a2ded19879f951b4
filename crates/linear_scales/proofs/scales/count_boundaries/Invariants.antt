use Rattle.std.proofs.Common.{◌≡◌, ◌≤◌, ◌*◌, length, take}
use Rattle.std.specs.List.{sum_by}
use Rattle.linear_scales.specs.Limited.{scales_of}
use Rattle.linear_scales.proofs.scales.count_boundaries.Given as goal

abbrev pub invariant-loop-a : goal.invariant-loop-a
invariant-loop-a l = record {
  value : l.count ≡ sum_by length (take l.a (scales_of l.scales));
  few : l.count ≤ l.a * 65535;
}
