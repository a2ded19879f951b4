use Rattle.std.proofs.Common.{◌≡◌, ◌+◌, ◌*◌, ◌++◌}
use Rattle.grid_gen.specs.Draws.{nth_draw}
use Rattle.grid_gen.proofs.Rounds.{first_lines}
use Rattle.grid_gen.proofs.generator.add_round.Given as goal

abbrev pub invariant-loop-c : goal.invariant-loop-c
invariant-loop-c g l = record {
  last : l.draws.last ≡ nth_draw l.initial.draws.last (l.c * (g.row.K + 2));
  so_far : l.list.items ≡ l.initial.list.items ++ first_lines g.row.K l.initial.draws.last l.clients l.c;
}
