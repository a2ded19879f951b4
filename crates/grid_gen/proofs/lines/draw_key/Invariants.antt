use Rattle.std.proofs.Common.{◌≡◌, length, map, take}
use Rattle.grid_gen.specs.Draws.{nth_draw, draws_from}
use Rattle.grid_gen.specs.Generated.{key_number}
use Rattle.grid_gen.proofs.lines.draw_key.Given as goal

abbrev pub invariant-loop-a : goal.invariant-loop-a
invariant-loop-a g l = record {
  count : length l.numbers ≡ g.row.K;
  so_far : take l.a l.numbers ≡ map key_number (draws_from l.initial.draws.last 1 l.a);
  last : l.draws.last ≡ nth_draw l.initial.draws.last l.a;
}
