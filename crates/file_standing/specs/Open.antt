-- A file that is open: its books, and a disk that meets what they ask.
use Rattle.std.specs.Prelude.{ℕ, List, IsTrue}
use Rattle.disk_trait.specs.declared.disk.Disk.{Ghosts}
use Rattle.disk_trait.specs.Moments.{LeavesOnly}
use Rattle.grid_model.specs.Lone.{State}
use Rattle.file_images.specs.Kept.{Kept}
use Rattle.file_images.specs.Leads.{Standing, HasStanding}
use Rattle.file_images.specs.Meets.{Meets}
use Rattle.file_books.specs.Books.{Books}
use Rattle.file_standing.specs.Files.{IsFile, IsAlone, InSession}

-- a file is open at a standing: by what is kept on it, it is there, and the disk meets that
pub record IsOpenAt {K : ℕ} {D : Type 0} (g : Ghosts D) (b : Books) (m : Standing K) (disk : D) : Type 0 where
  pub kept : Kept K
  pub file : IsFile b kept m
  pub meets : Meets g kept disk

-- a file is open at a standing, and each root that may be the newest is of the session
pub record IsOpenInSession {K : ℕ} {D : Type 0} (g : Ghosts D) (b : Books) (m : Standing K) (disk : D) : Type 0 where
  pub kept : Kept K
  pub file : IsFile b kept m
  pub session : InSession b kept
  pub meets : Meets g kept disk

-- a file is open at a standing as a lone caller's state says, where no root step failed; each root that may be the newest is of the session
pub record IsOpenAlone {K : ℕ} {D : Type 0} (g : Ghosts D) (b : Books) (m : Standing K) (s : State K) (disk : D) : Type 0 where
  pub kept : Kept K
  pub file : IsFile b kept m
  pub session : InSession b kept
  pub alone : IsAlone b kept m s
  pub meets : Meets g kept disk

-- at each moment of a call a crash leaves an image that has this standing
abbrev pub StaysStanding : {K : ℕ} {D : Type 0} → Ghosts D → Standing K → D → D → Type 0
StaysStanding g m old new = IsTrue (g.honest old) → LeavesOnly g.moment g.left_since old new (λ image. HasStanding image m)
