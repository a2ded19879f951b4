-- What an opening leaves: a file that is open and idle, or why there is none; and its disk.
use Rattle.std.specs.Prelude.{◌≡◌, ◌≤◌, ◌^◌, ◌⊎◌, ℕ, List, [], Result, Ok, Err}
use Rattle.grid_types.specs.declared.shape.Shape.{Shape}
use Rattle.grid_types.specs.declared.refusal.Refusal.{Refusal}
use Rattle.grid_types.specs.declared.refusal.Refusal.TheVariants.{Damaged}
use Rattle.disk_trait.specs.declared.disk.Disk.{Ghosts}
use Rattle.disk_trait.specs.Moments.{LeavesOnly}
use Rattle.shadow_directory.specs.Calls.{IsFault}
use Rattle.file_images.specs.Leads.{Standing, HasStanding}
use Rattle.file_state.specs.Roots.{HasRoom}
use Rattle.file_updates.specs.Rooms.{HasRoomFor}
use Rattle.query_paths.specs.Rooms.{room_for}
use Rattle.file_opening.specs.declared.opened.Opened.{Opened}
use Rattle.file_opening.specs.declared.opened.Unopened.{Unopened}
use Rattle.file_opening.specs.declared.redo_batches.Redo.{Redo}
use Rattle.file_opening.specs.declared.redo_batches.Redo.TheVariants as redo
use Rattle.file_opening.specs.Refusals.{IsRefusedOr}
use Rattle.file_opening.specs.Slots.{IsTheSlotOf}

-- the disk of a file that was opened or not
abbrev pub disk_after : {K : ℕ} {D : Type 0} → Result (Opened K D) (Unopened D) → D
disk_after (Ok o) = o.file.disk
disk_after (Err n) = n.disk.value

-- what an opening comes to, where of a file that was not opened only the refusal counts
abbrev pub with_refusal : {K : ℕ} {D : Type 0} → Result (Opened K D) (Unopened D) → Result (Opened K D) Refusal
with_refusal (Ok o) = Ok o
with_refusal (Err n) = Err n.refusal

-- an open file is idle: no page is claimed, its next root, its updates and its readings have room, and its root's number and its session are at most 2 ^ 62
pub record IsIdle {K : ℕ} {D : Type 0} (o : Opened K D) : Type 0 where
  pub unclaimed : o.file.claimed ≡ []
  pub room : HasRoom o.file.books.shape o.next
  pub updates : HasRoomFor o.file.books.shape o.room
  pub query : room_for o.query ≡ o.file.books.shape.pages
  pub number : o.file.books.number ≤ 2 ^ 62
  pub session : o.file.books.session ≤ 2 ^ 62

-- an image stands for no table, and some page of it is told to be damaged
pub record IsUnfit (K : ℕ) (image : List ℕ) (e : Refusal) : Type 0 where
  pub page : ℕ
  pub told : e ≡ Damaged page
  pub nothing : (m : Standing K) → HasStanding image m → ⊥

-- a file is not opened: its image is refused, a disk failed or memory was wanting, or else the image stands for no table
abbrev pub IsUnopened : ℕ → List ℕ → Refusal → Type 0
IsUnopened K image e = IsRefusedOr K image e ⊎ IsUnfit K image e

-- at each moment of a call a crash leaves what it might have left before, or an image that has this standing
abbrev pub LeavesStanding : {K : ℕ} {D : Type 0} → Ghosts D → Standing K → D → D → Type 0
LeavesStanding g m old new = LeavesOnly g.moment g.left_since old new (λ image. g.may_leave old image ⊎ HasStanding image m)

-- a disk failed, or, where an update of a batch can't be redone, the page is told to be damaged that is to be named for the batch
abbrev pub TellsUnfit : (K : ℕ) → Shape → List ℕ → (session : ℕ) → Redo → Refusal → Type 0
TellsUnfit K s image session redo.All e = IsFault e
TellsUnfit K s image session (redo.Unfit first) e = IsFault e ⊎ ((page : ℕ) × (e ≡ Damaged page) × IsTheSlotOf K s image session first page)
