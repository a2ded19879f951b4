-- What a change leaves of a store.
use Rattle.std.specs.Prelude.{◌≡◌, ℕ, List, Option, Some, Result, Ok, Err}
use Rattle.grid_types.specs.declared.refusal.Refusal.{Refusal}
use Rattle.grid_types.specs.declared.refusal.Refusal.TheVariants as refusal
use Rattle.query_paths.specs.declared.room.Room.{Room}
use Rattle.file_books.specs.Books.{Books}
use Rattle.grid_file.specs.Keeping.{KeepsReading}
use Rattle.durable_updates.specs.Answers.{GoesOn}
use Rattle.grid_store.specs.Stores.{OpenStore}

-- the count of failed writes at which an update leaves a store stopped: that of the update's batch, where this failed, else as before
abbrev pub stop_after : {T : Type 0} → Option ℕ → Result T Refusal → Option ℕ
stop_after old (Ok a) = old
stop_after old (Err (refusal.Unsure faults before)) = Some faults
stop_after old (Err e) = old

-- a store goes on behind a change: its file does, and the room of its readings stays, and the count of failed writes that it was opened at
pub record StoreGoesOn {K : ℕ} {D : Type 0} (old new : OpenStore K D) : Type 0 where
  pub file : GoesOn old.file new.file
  pub query : new.query ≡ old.query
  pub page : new.page ≡ old.page
  pub opened : new.opened ≡ old.opened

-- a checkpoint leaves a store as it was but for its root and its room: its books read as before, it goes on, and it is stopped as it was
pub record KeepsFront {K : ℕ} {D : Type 0} (old new : OpenStore K D) : Type 0 where
  pub reading : KeepsReading old.file.books new.file.books
  pub goes_on : StoreGoesOn old new
  pub stop : new.stop ≡ old.stop

-- a place is the front of books, and their newest root is there
pub record IsRootedFront (b : Books) (place : ℕ) : Type 0 where
  pub front : place ≡ b.front
  pub rooted : b.rooted_at ≡ b.front
