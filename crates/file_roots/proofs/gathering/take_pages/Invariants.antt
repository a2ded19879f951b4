use Rattle.std.proofs.Common.{◌≡◌, ◌<◌, ◌++◌, ℕ, List, length, take}
use Rattle.std.specs.Prelude.{All}
use Rattle.root_pages.specs.Reading.{AreOn}
use Rattle.file_roots.specs.Gathering.{AreMarked, named_by}
use Rattle.file_roots.proofs.gathering.take_pages.Given as goal

abbrev pub invariant-loop-i : goal.invariant-loop-i
invariant-loop-i l = record {
  taken : (xs : List ℕ) → AreOn 4 l.count l.page xs → l.list.items ≡ l.initial.list.items ++ take l.i xs;
  inside : (xs : List ℕ) → AreOn 4 l.count l.page xs → All (λ p. p < length l.initial.marks.items) (named_by l.may_be_nowhere (take l.i xs));
  marked : (xs named : List ℕ) → AreOn 4 l.count l.page xs → AreMarked l.initial.marks.items named → AreMarked l.marks.items (named ++ named_by l.may_be_nowhere (take l.i xs));
  count : length l.marks.items ≡ length l.initial.marks.items;
}
