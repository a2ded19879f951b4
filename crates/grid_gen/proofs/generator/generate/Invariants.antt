use Rattle.std.proofs.Common.{◌≡◌, ◌+◌, ◌*◌}
use Rattle.grid_gen.specs.Draws.{nth_draw}
use Rattle.grid_gen.proofs.Rounds.{first_rounds}
use Rattle.grid_gen.proofs.generator.generate.Given as goal

abbrev pub invariant-loop-round : goal.invariant-loop-round
invariant-loop-round g l = record {
  last : l.draws.last ≡ nth_draw l.seed (l._round * l.clients * (g.row.K + 2));
  so_far : l.list.items ≡ first_rounds g.row.K l.seed l.clients l._round;
}
