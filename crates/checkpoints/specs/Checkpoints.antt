-- What a root step makes of the books of a file, and where it leaves the file open.
use Rattle.std.specs.Prelude.{◌≡◌, ◌⊎◌, ℕ, None, Result, Ok, Err}
use Rattle.disk_trait.specs.declared.disk.Disk.{Ghosts}
use Rattle.file_images.specs.Kept.{LooseHeader, Kept}
use Rattle.file_images.specs.Leads.{Standing}
use Rattle.file_images.specs.Meets.{Meets}
use Rattle.file_books.specs.Books.{Books}
use Rattle.file_books.specs.Effects.{closed_books, turned_books, rooted_books, swept_books, cleaned_books}
use Rattle.file_standing.specs.Files.{IsFile, InSession}
use Rattle.file_standing.specs.Open.{IsOpenAt, IsOpenInSession}

-- the books while the next root is written: the other header page is closed, and it is tried at the front
abbrev pub trying_books : Books → Books
trying_books b = turned_books (closed_books b)

-- the books once that root stands, and the pages that roots have no need of are free
abbrev pub standing_books : Books → Books
standing_books b = swept_books (rooted_books (trying_books b))

-- the books after a root step: the half that is not current is clear besides
abbrev pub checkpointed_books : Books → Books
checkpointed_books b = cleaned_books (standing_books b)

-- the books after a root step that failed: those of before, or those while the next root is written, or those once it stands
abbrev pub AreBooksBehind : Books → Books → Type 0
AreBooksBehind old new = (new ≡ old) ⊎ ((new ≡ trying_books old) ⊎ (new ≡ standing_books old))

-- the books after a root step: all of its steps are taken, or it failed
abbrev pub AreBooksAfter : {T E : Type 0} → Result T E → Books → Books → Type 0
AreBooksAfter (Ok x) old new = new ≡ checkpointed_books old
AreBooksAfter (Err e) old new = AreBooksBehind old new

-- a file that was open at a standing is open there with other books, and in session where it was
pub record StaysOpen {K : ℕ} {D : Type 0} (g : Ghosts D) (b c : Books) (m : Standing K) (old new : D) : Type 0 where
  pub open_at : IsOpenAt g b m old → IsOpenAt g c m new
  pub in_session : IsOpenInSession g b m old → IsOpenInSession g c m new

-- a file is open in session at a standing, and its root stands at the front, beside a header page on which none was tried
pub record IsRooted {K : ℕ} {D : Type 0} (g : Ghosts D) (b : Books) (m : Standing K) (disk : D) : Type 0 where
  pub kept : Kept K
  pub file : IsFile b kept m
  pub session : InSession b kept
  pub meets : Meets g kept disk
  pub other : kept.other ≡ LooseHeader None
  pub front : kept.root.fields.front ≡ b.front
  pub quiet : b.trying_at ≡ None

-- the books where the halves' roles are exchanged if the other one is clear, and no root is tried
abbrev pub exchanged_books : Books → Books
exchanged_books b = closed_books (turned_books b)

-- the books once the journal is clear, of which one half was clear before
abbrev pub emptied_books : Books → Books
emptied_books b = cleaned_books (exchanged_books b)

-- no slot of either half is used
pub record IsClear (b : Books) : Type 0 where
  pub first : b.first_used ≡ 0
  pub second : b.second_used ≡ 0
