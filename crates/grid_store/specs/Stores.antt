-- A store: a file with one client, with the room that its calls need.
use Rattle.std.specs.Prelude.{◌≡◌, ℕ, List, [], Option, None, is_some}
use Rattle.std.specs.List.{count_by}
use Rattle.grid_types.specs.declared.answer.Answer.{Answer}
use Rattle.grid_types.specs.declared.shape.Stat.{Stat}
use Rattle.disk_trait.specs.declared.disk.Disk.{Ghosts}
use Rattle.disk_trait.specs.Calls.{OnlyReads}
use Rattle.grid_model.specs.Cells.{cells}
use Rattle.grid_model.specs.Lone.{State}
use Rattle.linear_scales.specs.declared.root.Root.{Root}
use Rattle.page_states.specs.States.{is_claimed, is_free}
use Rattle.query_paths.specs.declared.room.Room.{Room}
use Rattle.query_paths.specs.Rooms.{room_for}
use Rattle.file_books.specs.Books.{Books}
use Rattle.file_state.specs.Roots.{HasRoom}
use Rattle.file_standing.specs.Open.{IsOpenAlone}
use Rattle.grid_file.specs.Files.{OpenFile}
use Rattle.grid_file.specs.Keeping.{KeepsReading}
use Rattle.file_updates.specs.declared.room.UpdateRoom.{UpdateRoom}
use Rattle.file_updates.specs.Rooms.{HasRoomFor}
use Rattle.client_sessions.specs.Points.{Point, standing_of}
use Rattle.durable_updates.specs.Points.{IsOpenAsAt}

-- what is seen of a store: its open file; room for the next root, for updates and for readings; the page of a get that was read last; the count of failed writes behind the batch that failed, if one did; and that count as the store was opened
pub record OpenStore (K : ℕ) (D : Type 0) : Type 0 where
  pub file : OpenFile D
  pub next : Root K
  pub room : UpdateRoom K
  pub query : Room K
  pub page : List ℕ
  pub stop : Option ℕ
  pub opened : ℕ

-- a store is idle between two calls: no page is claimed, and its roots, updates and readings have room
pub record IsIdleStore {K : ℕ} {D : Type 0} (s : OpenStore K D) : Type 0 where
  pub unclaimed : s.file.claimed ≡ []
  pub next : HasRoom s.file.books.shape s.next
  pub updates : HasRoomFor s.file.books.shape s.room
  pub queries : room_for s.query ≡ s.file.books.shape.pages

-- a store is at a point of its client's session: its file is open there, and it is stopped where a batch is in doubt
pub record IsStoreAt {K : ℕ} {D : Type 0} (g : Ghosts D) (s : OpenStore K D) (p : Point K) : Type 0 where
  pub file : IsOpenAsAt g s.file.books p s.file.disk
  pub stop : is_some s.stop ≡ is_some p.beyond

-- a store is as a lone caller's state says, since no root step and no batch failed; no page is claimed
pub record IsStoreAlone {K : ℕ} {D : Type 0} (g : Ghosts D) (s : OpenStore K D) (t : State K) : Type 0 where
  pub file : IsOpenAlone g s.file.books (standing_of t) t s.file.disk
  pub stop : s.stop ≡ None
  pub unclaimed : count_by is_claimed s.file.books.pages ≡ 0

-- a call leaves a store as it was but for its room: its books read as before, its disk was only read, and it is stopped as it was
pub record KeepsStore {K : ℕ} {D : Type 0} (g : Ghosts D) (old new : OpenStore K D) : Type 0 where
  pub books : KeepsReading old.file.books new.file.books
  pub disk : OnlyReads g old.file.disk new.file.disk
  pub stop : new.stop ≡ old.stop
  pub opened : new.opened ≡ old.opened

-- what is counted in the books of a file, at its front
abbrev pub stat_of : Books → Answer Stat
stat_of b = record { at = b.front; value = record { records = b.records; cells = cells b.scales; buckets = b.buckets; free = count_by is_free b.pages } }
