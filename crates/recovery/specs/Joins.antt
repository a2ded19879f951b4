-- Batches that join a place of the history, in a list from which those that were taken are gone.
use Rattle.std.specs.Prelude.{◌≡◌, ◌≢◌, ◌<◌, ◌≤◌, ◌+◌, ◌^◌, [], ℕ, List, length, slice_index_or}
use Rattle.grid_model.specs.Spellings.{LoggedBatch}
use Rattle.grid_model.specs.Lawful.{IsBatch}

-- what stands in a list in place of a batch that was taken: a batch of no updates at place 0, which joins no place
abbrev pub empty_batch : {K : ℕ} → LoggedBatch K
empty_batch = record { session = 0; first = 0; updates = [] }

-- each batch of a list is lawful or stands at place 0
abbrev pub AreLawfulOrEmpty : {K : ℕ} → List (LoggedBatch K) → Type 0
AreLawfulOrEmpty batches = (i : ℕ) → i < length batches → (slice_index_or batches i empty_batch).first ≢ 0 → IsBatch (slice_index_or batches i empty_batch)

-- a batch leads on from a place: it begins with the next one, and has updates, up to a place of 63 bits
pub record LeadsOn {K : ℕ} (place : ℕ) (b : LoggedBatch K) : Type 0 where
  pub first : b.first ≡ place + 1
  pub some : 1 ≤ length b.updates
  pub small : place + length b.updates < 2 ^ 63

-- a batch of a list is the first that leads on from a place
pub record IsFirstOn {K : ℕ} (batches : List (LoggedBatch K)) (place i : ℕ) : Type 0 where
  pub inside : i < length batches
  pub leads : LeadsOn place (slice_index_or batches i empty_batch)
  pub before : (j : ℕ) → j < i → LeadsOn place (slice_index_or batches j empty_batch) → ⊥

-- no batch of a list leads on from a place
abbrev pub NoneLeadsOn : {K : ℕ} → List (LoggedBatch K) → ℕ → Type 0
NoneLeadsOn batches place = (i : ℕ) → i < length batches → LeadsOn place (slice_index_or batches i empty_batch) → ⊥
