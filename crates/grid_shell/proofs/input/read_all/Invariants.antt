use Rattle.std.proofs.Common.{◌≡◌, ◌≤◌, ◌-◌, length, take, drop, vec_len, IsTrue}
use Rattle.grid_shell.proofs.input.read_all.Given as goal

abbrev pub invariant-pieces : goal.invariant-pieces
invariant-pieces g l = record {
  within : vec_len l.bytes ≤ l.most;
  later : g.S.Source.fault_count l.initial.source ≤ g.S.Source.fault_count l.source;
  tells : g.S.Source.tells l.source ≡ g.S.Source.tells l.initial.source;
  had : IsTrue (g.S.Source.tells l.initial.source) → l.bytes.items ≡ take (length l.bytes.items) (g.S.Source.left l.initial.source);
  rest : IsTrue (g.S.Source.tells l.initial.source) → g.S.Source.left l.source ≡ drop (length l.bytes.items) (g.S.Source.left l.initial.source);
}

abbrev pub decreases-pieces : goal.decreases-pieces
decreases-pieces g l = l.most - vec_len l.bytes
