-- What the opening of a store comes to.
use Rattle.std.specs.Prelude.{◌≡◌, ◌≤◌, ◌^◌, ℕ, Option, None, Result, Ok, Err}
use Rattle.grid_types.specs.declared.refusal.Refusal.{Refusal}
use Rattle.file_opening.specs.declared.opened.Unopened.{Unopened}
use Rattle.grid_store.specs.Stores.{OpenStore}

-- the disk of a store that was opened or not
abbrev pub disk_behind : {K : ℕ} {D : Type 0} → Result (OpenStore K D) (Unopened D) → D
disk_behind (Ok s) = s.file.disk
disk_behind (Err n) = n.disk.value

-- what an opening comes to, where of a store that was not opened only the refusal counts
abbrev pub by_refusal : {K : ℕ} {D : Type 0} → Result (OpenStore K D) (Unopened D) → Result (OpenStore K D) Refusal
by_refusal (Ok s) = Ok s
by_refusal (Err n) = Err n.refusal

-- a store was just opened: it is not stopped, it tells this count of failed writes, and its root's number and its session are at most 2 ^ 62
pub record IsFreshStore {K : ℕ} {D : Type 0} (faults : ℕ) (s : OpenStore K D) : Type 0 where
  pub stop : s.stop ≡ None
  pub opened : s.opened ≡ faults
  pub number : s.file.books.number ≤ 2 ^ 62
  pub session : s.file.books.session ≤ 2 ^ 62
