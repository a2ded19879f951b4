-- What becomes of a change that has a plan: where it leads, and why it fails.
use Rattle.std.specs.Prelude.{◌≡◌, ◌⊎◌, ◌<◌, ◌≤◌, ◌+◌, ℕ, List, Some, None, Result, Ok, Err, ⊤}
use Rattle.std.specs.List.{count_by}
use Rattle.grid_types.specs.declared.layout_change.LayoutChange.{LayoutChange}
use Rattle.grid_types.specs.declared.refusal.Refusal.{Refusal}
use Rattle.grid_types.specs.declared.refusal.Refusal.TheVariants as refusal
use Rattle.grid_types.specs.declared.request.Reply.TheVariants as told
use Rattle.grid_types.specs.declared.update.Update.{Update}
use Rattle.disk_trait.specs.declared.disk.Disk.{Ghosts}
use Rattle.disk_trait.specs.Causes.{Rose}
use Rattle.grid_model.specs.Layouts.{BucketBox}
use Rattle.grid_model.specs.Lone.{State, Outcome, need, update_reply}
use Rattle.page_states.specs.States.{is_claimed}
use Rattle.file_images.specs.Leads.{Standing}
use Rattle.file_books.specs.Books.{Books}
use Rattle.file_standing.specs.Open.{IsOpenAlone}
use Rattle.grid_file.specs.Files.{OpenFile}
use Rattle.file_updates.specs.Writing.{IsDamagedPart}
use Rattle.client_sessions.specs.Points.{Point, after_update, standing_of}
use Rattle.client_sessions.specs.Told.{worn_from}
use Rattle.durable_updates.specs.Points.{IsOpenAsAt, StaysAtPoints}

-- the point of a session at a standing, where nothing is in doubt
abbrev pub settled_at : {K : ℕ} → Standing K → Point K
settled_at m = record { at = m; beyond = None }

-- the point of a session at a standing, where a batch is in doubt with which it would stand at another
abbrev pub doubted_at : {K : ℕ} → Standing K → Standing K → Point K
doubted_at m n = record { at = m; beyond = Some n }

-- the point to which a change of a box leads by its note: behind it; in doubt between both, since its batch failed; or where it was, since pages lack, a number is worn, or a disk failed
abbrev pub CarriesTo : {K : ℕ} {T : Type 0} → Standing K → ℕ × BucketBox K → Update K → LayoutChange → Result T Refusal → Point K → Type 0
CarriesTo m e u n (Ok x) q = q ≡ settled_at (after_update m u n)
CarriesTo m e u n (Err (refusal.Unsure faults before)) q = (q ≡ doubted_at m (after_update m u n)) × ((before < faults) ⊎ (faults ≡ 18446744073709551615))
CarriesTo m e u n (Err (refusal.Full few wanted)) q = (q ≡ settled_at m) × (few < wanted) × (wanted ≡ need m.layout e u n)
CarriesTo m e u n (Err (refusal.Worn count)) q = (q ≡ settled_at m) × (worn_from ≤ count)
CarriesTo m e u n (Err refusal.ReadFault) q = q ≡ settled_at m
CarriesTo m e u n (Err refusal.WriteFault) q = q ≡ settled_at m
CarriesTo m e u n (Err other) q = ⊥

-- a change was carried to a point: what came of it leads there, the file is open at it, and at each moment a crash leaves an image that stands there or where the change began
pub record IsCarried {K : ℕ} {D T : Type 0} (g : Ghosts D) (m : Standing K) (e : ℕ × BucketBox K) (u : Update K) (n : LayoutChange) (result : Result T Refusal) (old : D) (b : Books) (new : D) : Type 0 where
  pub point : Point K
  pub leads : CarriesTo m e u n result point
  pub stands : IsOpenAsAt g b point new
  pub moments : StaysAtPoints g (settled_at m) point old new

-- a file is open alone where a state stands, and no page is claimed
pub record IsOpenIdle {K : ℕ} {D : Type 0} (g : Ghosts D) (b : Books) (s : State K) (disk : D) : Type 0 where
  pub alone : IsOpenAlone g b (standing_of s) s disk
  pub unclaimed : count_by is_claimed b.pages ≡ 0

-- what came of a change is what comes of it in a lone caller's state, unless something failed
abbrev pub IsCarriedAlone : {K : ℕ} {D T : Type 0} → Ghosts D → State K → Update K → Outcome K → Result T Refusal → Books → D → Type 0
IsCarriedAlone g s u o (Ok x) b disk = (o.reply ≡ update_reply u (s.front + 1) s.table) × IsOpenIdle g b o.state disk
IsCarriedAlone g s u o (Err (refusal.Full few wanted)) b disk = (o.reply ≡ told.Refused (refusal.Full few wanted)) × IsOpenIdle g b o.state disk
IsCarriedAlone g s u o (Err (refusal.NoCut cells boundaries)) b disk = ⊥
IsCarriedAlone g s u o (Err e) b disk = ⊤

-- why a batch fails: the count of failed writes, which was told before it, rose, or stands at its last value
abbrev pub IsBatchCause : {D : Type 0} → Ghosts D → OpenFile D → OpenFile D → Refusal → Type 0
IsBatchCause g old new (refusal.Unsure faults before) = (g.write_count old.disk ≤ before) × (faults ≡ g.write_count new.disk) × ((before < faults) ⊎ (faults ≡ 18446744073709551615))
IsBatchCause g old new other = ⊥

-- why a change with room for it fails: a read or a write failed whose count rose, its batch did, or a page of the directory is damaged, whose bytes are these
abbrev pub IsPuttingCause : {D : Type 0} → Ghosts D → OpenFile D → OpenFile D → List ℕ → Refusal → Type 0
IsPuttingCause g old new bytes refusal.ReadFault = Rose (g.read_count old.disk) (g.read_count new.disk)
IsPuttingCause g old new bytes refusal.WriteFault = Rose (g.write_count old.disk) (g.write_count new.disk)
IsPuttingCause g old new bytes (refusal.Damaged page) = IsDamagedPart old.books bytes page
IsPuttingCause g old new bytes other = IsBatchCause g old new other

-- why a change fails: it lacks room, or it fails with room for it
abbrev pub IsCarryingCause : {D : Type 0} → Ghosts D → OpenFile D → OpenFile D → List ℕ → Refusal → Type 0
IsCarryingCause g old new bytes (refusal.Full few wanted) = few < wanted
IsCarryingCause g old new bytes (refusal.Worn count) = (worn_from ≤ count) × (count ≡ new.books.number)
IsCarryingCause g old new bytes other = IsPuttingCause g old new bytes other
