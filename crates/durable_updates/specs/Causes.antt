-- Why a root step or an update is refused.
use Rattle.std.specs.Prelude.{◌≡◌, ◌⊎◌, ◌<◌, ◌≤◌, ℕ, List, ⊤}
use Rattle.grid_types.specs.declared.refusal.Refusal.{Refusal}
use Rattle.grid_types.specs.declared.refusal.Refusal.TheVariants as refusal
use Rattle.grid_types.specs.declared.update.Update.{Update}
use Rattle.disk_trait.specs.declared.disk.Disk.{Ghosts}
use Rattle.disk_trait.specs.Causes.{Rose}
use Rattle.grid_model.specs.Cells.{cells}
use Rattle.grid_model.specs.Lone.{boundaries}
use Rattle.grid_model.specs.Notes.{updated_key}
use Rattle.bucket_page.specs.OnPage.{head_told}
use Rattle.query_paths.specs.Paths.{IsGetRefusal}
use Rattle.merge_paths.specs.Partners.{IsRefusedBeside}
use Rattle.file_books.specs.Books.{Books}
use Rattle.grid_file.specs.Files.{OpenFile}
use Rattle.grid_file.specs.Pages.{front_place}
use Rattle.file_updates.specs.Writing.{IsDamagedPart}
use Rattle.file_updates.specs.declared.room.UpdateRoom.{UpdateRoom}
use Rattle.client_sessions.specs.Told.{worn_from}

-- a root step is refused since the root's number is worn, or the disk failed
abbrev pub IsRootRefusal : Books → Refusal → Type 0
IsRootRefusal b (refusal.Worn count) = (worn_from ≤ b.number) × (count ≡ b.number)
IsRootRefusal b refusal.ReadFault = ⊤
IsRootRefusal b refusal.WriteFault = ⊤
IsRootRefusal b other = ⊥

-- the front or the root's number is worn, and it is told
abbrev pub IsWornAt : Books → ℕ → Type 0
IsWornAt b count = (worn_from ≤ count) × ((count ≡ b.front) ⊎ (count ≡ b.number))

-- there is no cut within the limits, of so many cells and boundaries
abbrev pub LacksCut : List (List ℕ) → ℕ → ℕ → Type 0
LacksCut scales c b = (c ≡ cells scales) × (b ≡ boundaries scales)

-- a page that was read is not the expected one: on the way to the key's bucket, beside it, or of the directory that changes; its bytes stand in the room
abbrev pub MetDamage : (K : ℕ) {D : Type 0} → Ghosts D → OpenFile D → OpenFile D → List ℕ → UpdateRoom K → ℕ → Type 0
MetDamage K g old new key room page = IsGetRefusal K (front_place g old) (g.read_count old.disk) (g.read_count new.disk) key room.found.value (refusal.Damaged page)
    ⊎ IsRefusedBeside (front_place g old) (g.read_count old.disk) (g.read_count new.disk) (head_told K room.found.value).region room.beside.value (refusal.Damaged page)
    ⊎ IsDamagedPart old.books room.parts.value.old_page page

-- why an update is refused: a read or a write failed whose count rose; its batch failed, in which the count of failed writes rose; pages lack, or a cut; a number is worn; or a page was damaged
abbrev pub IsUpdateCause : {K : ℕ} {D : Type 0} → Ghosts D → Update K → OpenFile D → OpenFile D → UpdateRoom K → Refusal → Type 0
IsUpdateCause g u old new room refusal.ReadFault = Rose (g.read_count old.disk) (g.read_count new.disk)
IsUpdateCause g u old new room refusal.WriteFault = Rose (g.write_count old.disk) (g.write_count new.disk)
IsUpdateCause g u old new room (refusal.Unsure faults before) = (g.write_count old.disk ≤ before) × (faults ≡ g.write_count new.disk) × ((before < faults) ⊎ (faults ≡ 18446744073709551615))
IsUpdateCause g u old new room (refusal.Full free wanted) = free < wanted
IsUpdateCause g u old new room (refusal.NoCut c b) = LacksCut old.books.scales c b
IsUpdateCause g u old new room (refusal.Worn count) = IsWornAt new.books count
IsUpdateCause {K} g u old new room (refusal.Damaged page) = MetDamage K g old new (updated_key u) room page
IsUpdateCause g u old new room other = ⊥
