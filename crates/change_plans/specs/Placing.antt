-- What comes of a record that is put.
use Rattle.std.specs.Prelude.{List, ℕ, Option, ⊤}
use Rattle.change_plans.specs.declared.placing.Placed.{Placed}
use Rattle.change_plans.specs.declared.placing.Placed.TheVariants.{Done, CutDue}

-- where the record is put, P holds of the data that its key had
abbrev pub IfDone : Placed → (Option (List ℕ) → Type 0) → Type 0
IfDone (Done old) P = P old
IfDone CutDue P = ⊤

-- where the record is put, P holds
abbrev pub OnDone : Placed → Type 0 → Type 0
OnDone (Done old) P = P
OnDone CutDue P = ⊤

-- where a cut is due, P holds
abbrev pub OnDue : Placed → Type 0 → Type 0
OnDue (Done old) P = ⊤
OnDue CutDue P = P
