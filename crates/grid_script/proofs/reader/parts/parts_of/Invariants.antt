use Rattle.std.proofs.Common.{◌≡◌, length, map, take}
use Rattle.grid_model.specs.Script.{pieces, all_of}
use Rattle.grid_script.specs.Reading.{pieces_left}
use Rattle.grid_script.proofs.AllOf.{after}
use Rattle.grid_script.proofs.reader.parts.parts_of.Given as goal

abbrev pub invariant-loop-a : goal.invariant-loop-a
invariant-loop-a g l = record {
  count : length l.values ≡ g.row.K;
  so_far : all_of (map g.T.Part.value (pieces 44 l.word)) ≡ after (take l.a l.values) (all_of (map g.T.Part.value (pieces_left 44 l.more l.rest)));
}
