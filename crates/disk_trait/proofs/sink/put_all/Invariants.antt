use Rattle.std.proofs.Common.{length, ◌-◌, ◌≡◌, ◌≤◌, ◌++◌, take}
use Rattle.std.specs.Prelude.{IsTrue}
use Rattle.disk_trait.proofs.sink.put_all.Given as goal

abbrev pub invariant-loop-at : goal.invariant-loop-at
invariant-loop-at g l = record {
  within : l.at ≤ length l.bytes;
  later : g.O.Sink.fault_count l.initial.out ≤ g.O.Sink.fault_count l.out;
  tells : g.O.Sink.tells l.out ≡ g.O.Sink.tells l.initial.out;
  front : IsTrue (g.O.Sink.tells l.initial.out) → g.O.Sink.received l.out ≡ g.O.Sink.received l.initial.out ++ take l.at l.bytes;
}

abbrev pub decreases-loop-at : goal.decreases-loop-at
decreases-loop-at g l = length l.bytes - l.at
