-- A script that seed 1 generates, as it is written.
use Rattle.std.proofs.Common.{refl}
use Rattle.grid_model.specs.Computing.{computing}
use Rattle.grid_gen.specs.Draws.{drawn, nth_draw, draws_from}
use Rattle.grid_gen.specs.Generated.{drawn_line, round_lines, generated}
use Rattle.grid_gen.specs.Laws.{IsWorkedRow}

pub worked-row : IsWorkedRow
unfolding computing drawn nth_draw draws_from drawn_line round_lines generated
worked-row = refl
