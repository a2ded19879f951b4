use Rattle.std.proofs.Common.{◌<◌, ℕ, get_or}
use Rattle.grid_types.specs.declared.layout_change.LoggedUpdate.{LoggedUpdate}
use Rattle.journal_slots.specs.Reading.{NoteFits}
use Rattle.journal_slots.proofs.lawful.all_fit.Given as goal

abbrev pub invariant-loop-noted : goal.invariant-loop-noted
invariant-loop-noted g l = (k : ℕ) (d : LoggedUpdate g.row.K) → k < l.noted-index → NoteFits (get_or l.updates k d).update (get_or l.updates k d).note
