use Rattle.std.proofs.Common.{inl, inr, arith}
use Rattle.std.proofs.lemmas.Bool.{cases_lt}
use Rattle.directory_changes.proofs.Counted.{none-past}
use Rattle.directory_changes.proofs.parts.next_changed_part.Goals as goal

pub returns-clause-next : goal.returns-clause-next
returns-clause-next g c = λ part le. elim (cases_lt part c.loop-part.part) [
  | inl low ↦ c.loop-part.invariant part le low
  | inr high ↦ none-past c.args.dims.now.intervals c.args.change.now part (omega (arith, high, c.loop-part-test.false, c.parts_after-part-end.ensures))
]
