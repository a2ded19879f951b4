use Rattle.std.proofs.Common.{◌≡◌, length}
use Rattle.journal_slots.specs.Reading.{UpdatesAt}
use Rattle.journal_slots.proofs.reading.read_updates.Given as goal

abbrev pub invariant-loop-i : goal.invariant-loop-i
invariant-loop-i g l = record { len : length l.updates.items ≡ l.i; updates : UpdatesAt g.row.K l.page l.updates.items }
