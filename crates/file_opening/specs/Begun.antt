-- What an opening begins with, whatever the disk says.
use Rattle.std.specs.Prelude.{◌≡◌, ◌<◌, ◌≤◌, ◌+◌, ◌*◌, ◌^◌, ℕ, List, length}
use Rattle.grid_types.specs.declared.refusal.Refusal.{Refusal}
use Rattle.grid_types.specs.declared.sizes.TheConstants.{PAGE_BYTES}
use Rattle.grid_types.specs.Shapes.{file_pages}
use Rattle.journal_slots.specs.Scans.{AreLawfulOf}
use Rattle.file_images.specs.Leads.{updates_in}
use Rattle.file_state.specs.Roots.{HasRoom}
use Rattle.file_updates.specs.Rooms.{HasRoomFor}
use Rattle.query_paths.specs.Rooms.{room_for}
use Rattle.recovery.specs.Faults.{IsFirstFault}
use Rattle.file_opening.specs.declared.begun.Begun.{Begun}
use Rattle.file_opening.specs.Refusals.{IsUnworn}

-- what an opening begins with is lawful, also of a disk that does not tell its content: the file's pages are all there, the next root, updates and readings have room, each batch that is to be redone is lawful and of the root's session, their places are of 63 bits, and the root is not worn
pub record IsLawfulBegun {K : ℕ} (extent : ℕ) (b : Begun K) : Type 0 where
  pub size : file_pages b.state.shape * PAGE_BYTES ≤ extent
  pub room : HasRoom b.state.shape b.next
  pub updates : HasRoomFor b.state.shape b.room
  pub query : room_for b.query ≡ b.state.shape.pages
  pub taken : AreLawfulOf b.state.session b.taken
  pub small : b.state.front + length (updates_in b.taken) < 2 ^ 63
  pub unworn : IsUnworn b.state.number b.state.session

-- an image has no fault as a file of K attributes
abbrev pub HasNoFault : ℕ → List ℕ → Type 0
HasNoFault K image = (e : Refusal) → IsFirstFault K image e → ⊥
