-- A file that goes on at the same standing: swept, read, or behind a root step.
use Rattle.std.specs.Prelude.{◌≡◌, ◌≤◌, ◌<◌, ℕ, Result, Ok, Err, ⊤}
use Rattle.std.specs.List.{count_by}
use Rattle.grid_types.specs.declared.refusal.Refusal.{Refusal}
use Rattle.grid_types.specs.declared.refusal.Refusal.TheVariants as refusal
use Rattle.grid_types.specs.declared.shape.Shape.{Shape}
use Rattle.disk_trait.specs.declared.disk.Disk.{Ghosts}
use Rattle.disk_trait.specs.Calls.{Changes}
use Rattle.disk_trait.specs.Causes.{Rose}
use Rattle.grid_model.specs.Lone.{State, free}
use Rattle.page_states.specs.States.{is_claimed, is_free}
use Rattle.file_images.specs.Leads.{Standing}
use Rattle.file_books.specs.Books.{Books}
use Rattle.file_standing.specs.Open.{IsOpenInSession, IsOpenAlone, StaysStanding}
use Rattle.checkpoints.specs.Disks.{KeepsLength}
use Rattle.grid_file.specs.Files.{OpenFile}
use Rattle.grid_file.specs.Keeping.{KeepsReading}
use Rattle.client_sessions.specs.Told.{worn_from}
use Rattle.durable_updates.specs.Answers.{GoesOn}

-- a file goes on at the standing where it was open in session, at each moment a crash leaves that, its pages read as before, and as many are claimed
pub record GoesOnThere (K : ℕ) {D : Type 0} (g : Ghosts D) (old new : OpenFile D) : Type 0 where
  pub moments : (m : Standing K) → IsOpenInSession g old.books m old.disk → StaysStanding g m old.disk new.disk
  pub stays : (m : Standing K) → IsOpenInSession g old.books m old.disk → IsOpenInSession g new.books m new.disk
  pub reading : KeepsReading old.books new.books
  pub claims : count_by is_claimed new.books.pages ≡ count_by is_claimed old.books.pages
  pub same : GoesOn old new
  pub changes : Changes g KeepsLength old.disk new.disk

-- a file is open alone at a state and swept: no page is claimed, and as many are free as the state says
pub record IsOpenSwept {K : ℕ} {D : Type 0} (g : Ghosts D) (b : Books) (m : Standing K) (s : State K) (disk : D) : Type 0 where
  pub alone : IsOpenAlone g b m s disk
  pub unclaimed : count_by is_claimed b.pages ≡ 0
  pub counted : count_by is_free b.pages ≡ free b.shape s

-- why a root step fails within an update: a read or a write failed whose count rose, or the root's number is worn
abbrev pub IsStepCause : {D : Type 0} → Ghosts D → OpenFile D → OpenFile D → Refusal → Type 0
IsStepCause g old new refusal.ReadFault = Rose (g.read_count old.disk) (g.read_count new.disk)
IsStepCause g old new refusal.WriteFault = Rose (g.write_count old.disk) (g.write_count new.disk)
IsStepCause g old new (refusal.Worn count) = (worn_from ≤ count) × (count ≡ new.books.number)
IsStepCause g old new other = ⊥

-- why there is no room for so many pages: fewer are free, or a root step failed
abbrev pub IsRoomCause : {D : Type 0} → Ghosts D → ℕ → OpenFile D → OpenFile D → Refusal → Type 0
IsRoomCause g need old new (refusal.Full free wanted) = (free < wanted) × (wanted ≡ need)
IsRoomCause g need old new other = IsStepCause g old new other

-- where there are so many pages, the file is open alone at a state; where there are fewer, it is too, and they are counted as the state says
abbrev pub HasRoomAlone : {K : ℕ} {D T : Type 0} → Ghosts D → Shape → Standing K → (need : ℕ) → (pages room : State K) → Result T Refusal → Books → D → Type 0
HasRoomAlone g shape m need pages room (Ok x) b disk = IsOpenSwept g b m room disk × (need ≤ free shape pages)
HasRoomAlone g shape m need pages room (Err (refusal.Full few wanted)) b disk = IsOpenSwept g b m pages disk × (few ≡ free shape pages) × (wanted ≡ need) × (few < wanted)
HasRoomAlone g shape m need pages room (Err (refusal.NoCut cells boundaries)) b disk = ⊥
HasRoomAlone g shape m need pages room (Err e) b disk = ⊤
