-- A batch in memory as the model sees it.
use Rattle.std.specs.Prelude.{ℕ}
use Rattle.grid_model.specs.Spellings as model
use Rattle.journal_slots.specs.declared.batch.Batch.{Batch}

-- the model's batch: the session, the place of the first update, and the list of the updates
abbrev pub batch_of : {K : ℕ} → Batch K → model.LoggedBatch K
batch_of b = record { session = b.session; first = b.first; updates = b.updates.items }
