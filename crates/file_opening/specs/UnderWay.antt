-- A file while it is opened: where it leads, and which updates are left to redo.
use Rattle.std.specs.Prelude.{◌≡◌, ◌+◌, ℕ, List, []}
use Rattle.std.specs.List.{count_by}
use Rattle.grid_types.specs.declared.layout_change.LoggedUpdate.{LoggedUpdate}
use Rattle.disk_trait.specs.declared.disk.Disk.{Ghosts}
use Rattle.grid_model.specs.Lone.{opened}
use Rattle.page_states.specs.States.{is_claimed}
use Rattle.file_images.specs.Kept.{Kept}
use Rattle.file_images.specs.Leads.{Standing, Lineage}
use Rattle.file_images.specs.Meets.{Meets}
use Rattle.file_books.specs.Books.{Books}
use Rattle.file_standing.specs.Open.{IsOpenAlone}
use Rattle.file_redo.specs.Redoing.{IsRedoing}

-- a file is being opened and leads to a standing, and these updates are left to redo: by what is kept on it some are redone, the disk meets that, and no page is claimed
pub record IsUnderWay {K : ℕ} {D : Type 0} (g : Ghosts D) (b : Books) (disk : D) (m : Standing K) (rest : List (LoggedUpdate K)) : Type 0 where
  pub kept : Kept K
  pub lineage : Lineage K
  pub done : List (LoggedUpdate K)
  pub redoing : IsRedoing b kept m lineage done rest
  pub meets : Meets g kept disk
  pub unclaimed : count_by is_claimed b.pages ≡ 0

-- all is redone of a file that is being opened
abbrev pub IsRedone : {K : ℕ} {D : Type 0} → Ghosts D → Books → D → Standing K → Type 0
IsRedone g b disk m = IsUnderWay g b disk m []

-- a file was opened again at a standing: it is open there as a lone caller says who has just opened it, and no page is claimed
pub record IsReopened {K : ℕ} {D : Type 0} (g : Ghosts D) (b : Books) (disk : D) (m : Standing K) : Type 0 where
  pub alone : IsOpenAlone g b m (opened m.table m.layout m.place) disk
  pub unclaimed : count_by is_claimed b.pages ≡ 0

-- the books of the next session, at a root of its own: the shape stays, and the session and the root's number are one more
pub record IsNextSession (old new : Books) : Type 0 where
  pub shape : new.shape ≡ old.shape
  pub session : new.session ≡ old.session + 1
  pub number : new.number ≡ old.number + 1
