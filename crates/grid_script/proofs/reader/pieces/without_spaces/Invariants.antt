use Rattle.std.proofs.Common.{◌≡◌, drop}
use Rattle.grid_script.specs.Reading.{words_in}
use Rattle.grid_script.proofs.reader.pieces.without_spaces.Given as goal

abbrev pub invariant-loop-i : goal.invariant-loop-i
invariant-loop-i l = words_in (drop l.i l.text) ≡ words_in l.text
