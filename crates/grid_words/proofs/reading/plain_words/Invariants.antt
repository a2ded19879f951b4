use Rattle.std.proofs.Common.{◌≡◌, map, ◌++◌}
use Rattle.std.specs.Prelude.{string_bytes}
use Rattle.std.specs.List.{All}
use Rattle.std.specs.Vec.Iter.{into_iter_len}
use Rattle.grid_words.specs.Commands.{IsPlain}
use Rattle.grid_words.specs.Given.{behind_first, coming}
use Rattle.grid_words.proofs.reading.plain_words.Given as goal

abbrev pub invariant-loop-word : goal.invariant-loop-word
invariant-loop-word l = record {
  gathered : behind_first (coming l.fn.arguments) ≡ map string_bytes l.words.items ++ coming l.arguments;
  plain : All IsPlain (map string_bytes l.words.items);
}

abbrev pub decreases-loop-word : goal.decreases-loop-word
decreases-loop-word l = into_iter_len l.arguments
