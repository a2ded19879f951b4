use Rattle.std.proofs.Common.{◌≡◌, ◌<◌, ◌^◌, drop, map, ◌++◌}
use Rattle.std.specs.Prelude.{decimal}
use Rattle.std.specs.List.{All}
use Rattle.clap.specs.Walk.{texts}
use Rattle.grid_words.proofs.numbers.numbers_of.Given as goal

abbrev pub invariant-loop-word : goal.invariant-loop-word
invariant-loop-word l = record {
  printed : texts l.words ≡ map decimal l.numbers.items ++ texts (drop l.word-index l.words);
  small : All (λ n. n < 2 ^ 32) l.numbers.items;
}
