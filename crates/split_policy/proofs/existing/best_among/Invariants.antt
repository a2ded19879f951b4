use Rattle.std.proofs.Common.{◌≡◌, ◌<◌, ◌≤◌, ◌++◌, ℕ, List, length, slice_index, take}
use Rattle.split_policy.specs.Rows.{AreAscending}
use Rattle.split_policy.specs.Candidates.{dividing, best_of}
use Rattle.split_policy.proofs.existing.best_among.Given as goal

abbrev pub invariant-loop-value : goal.invariant-loop-value
invariant-loop-value l = record {
  best : (keys : List (List ℕ)) (candidates : List (ℕ × ℕ)) → AreAscending keys l.attribute l.numbers → l.initial.best ≡ best_of keys candidates
      → l.best ≡ best_of keys (candidates ++ dividing keys l.attribute (take l.value-index l.boundaries));
  known : (k j : ℕ) → k < l.left → l.value-index ≤ j → j < length l.boundaries → slice_index l.numbers k < slice_index l.boundaries j;
}
