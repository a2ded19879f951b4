use Rattle.std.proofs.Common.{◌<◌, ℕ, map, slice_index_or}
use Rattle.journal_slots.specs.Batches.{batch_of}
use Rattle.recovery.specs.Joins.{empty_batch, LeadsOn}
use Rattle.recovery.proofs.joining.first_on.Given as goal

abbrev pub invariant-loop-i : goal.invariant-loop-i
invariant-loop-i g l = (j : ℕ) → j < l.i → LeadsOn l.place (slice_index_or (map batch_of l.batches) j empty_batch) → ⊥
