-- The commit of one update: what is asked of a file before it, and where the file stands meanwhile and afterwards.
use Rattle.std.specs.Prelude.{◌≡◌, ◌⊎◌, ℕ, List, Option, IsTrue}
use Rattle.grid_types.specs.declared.layout_change.LayoutChange.{LayoutChange}
use Rattle.grid_types.specs.declared.layout_change.LoggedUpdate.{LoggedUpdate}
use Rattle.grid_types.specs.declared.update.Update.{Update}
use Rattle.disk_trait.specs.declared.disk.Disk.{Ghosts}
use Rattle.disk_trait.specs.Moments.{Always, LeavesOnly}
use Rattle.grid_model.specs.Layouts.{BucketBox}
use Rattle.grid_model.specs.Spellings.{LoggedBatch}
use Rattle.file_images.specs.Kept.{Kept, InDoubt}
use Rattle.file_images.specs.Leads.{Standing, HasStanding, behind, Leads}
use Rattle.file_images.specs.Meets.{Meets}
use Rattle.file_books.specs.Books.{Books}
use Rattle.file_books.specs.Effects.{Publishing}
use Rattle.file_standing.specs.Files.{AgreeWith, BooksHold, IsFile, InSession}
use Rattle.file_standing.specs.Steps.{publishing, IsWritten}

-- an update with its note, as it is logged
abbrev pub logged : {K : ℕ} → Update K → LayoutChange → LoggedUpdate K
logged u n = record { update = u; note = n }

-- a change may be committed in a file at a standing: the file is there, and each root that may be the newest is of the session of its books; the new pages of the change were written to claimed pages, and read so; and what is to be published is this change at that standing
pub record IsCommitting {K : ℕ} (b : Books) (k : Kept K) (m : Standing K) (e : ℕ × BucketBox K) (u : Update K) (x : Publishing K) (fresh : List (Option (List ℕ))) : Type 0 where
  pub file : IsFile b k m
  pub session : InSession b k
  pub written : IsWritten b m e u x.note x.pages fresh
  pub publishes : x ≡ publishing m e u x.note x.pages

-- an image has a standing, or the one behind a batch
abbrev pub StandsOrMoved : {K : ℕ} → Standing K → LoggedBatch K → List ℕ → Type 0
StandsOrMoved m d image = HasStanding image m ⊎ HasStanding image (behind m d)

-- at each moment of a call a crash leaves an image that has this standing, or the one behind a batch
abbrev pub StaysOrMoves : {K : ℕ} {D : Type 0} → Ghosts D → Standing K → LoggedBatch K → D → D → Type 0
StaysOrMoves g m d old new = IsTrue (g.honest old) → LeavesOnly g.moment g.left_since old new (StandsOrMoved m d)

-- a file is at a standing while a batch is in doubt on its next slot: its books agree with what is kept, and hold the standing, page by page, so that reading goes on there; each root that may be the newest is of the session, and leads there; the disk meets all that; and a crash leaves the standing, or the one behind the batch
pub record IsDoubtful {K : ℕ} {D : Type 0} (g : Ghosts D) (b : Books) (m : Standing K) (d : LoggedBatch K) (disk : D) : Type 0 where
  pub kept : Kept K
  pub agree : AgreeWith b kept
  pub hold : BooksHold b kept m
  pub session : InSession b kept
  pub doubt : kept.next ≡ InDoubt d
  pub leads : Leads kept m
  pub meets : Meets g kept disk
  pub crash : IsTrue (g.honest disk) → Always (g.may_leave disk) (StandsOrMoved m d)
