-- What is promised of an open file whose journal is being redone: what readings give, and what the writing of a change comes to beside pages that are fresh already.
use Rattle.std.specs.Prelude.{◌≡◌, ℕ, List, [], length, Option, Some, IsTrue}
use Rattle.grid_types.specs.declared.layout_change.LoggedUpdate.{LoggedUpdate}
use Rattle.grid_types.specs.declared.owner.Owner.{Owner}
use Rattle.disk_trait.specs.declared.disk.Disk.{Ghosts}
use Rattle.history_pages.specs.OwnerPages.{owner_page}
use Rattle.query_paths.specs.Pinned.{IsPinnedTo}
use Rattle.layout_pages.specs.HoldingLaws.{ReadAs}
use Rattle.file_images.specs.Kept.{Kept, Shut}
use Rattle.file_images.specs.Leads.{Standing, Lineage, Leads}
use Rattle.file_images.specs.Meets.{Meets}
use Rattle.file_sections.specs.Sections.{StaysShown}
use Rattle.file_books.specs.Books.{Books}
use Rattle.file_standing.specs.Open.{StaysStanding}
use Rattle.file_standing.specs.Steps.{with_fresh}
use Rattle.file_redo.specs.Redoing.{ReadAsHeld, IsRedoing}
use Rattle.file_redo.specs.RedoLaws.{AreSameBut}
use Rattle.grid_file.specs.Files.{OpenFile, IsOpenFile}
use Rattle.grid_file.specs.Pages.{pages_given, front_place}
use Rattle.grid_file.specs.Keeping.{ClaimedAreUnkept, KeepsFile}

-- where the books of a file hold a standing in the pages as they read, on a disk that tells its content and meets what is kept, readings give the page of each owner of its layout and table, and its front has the pages of both
pub record RedoReadingsTell (K : ℕ) {D : Type 0} (g : Ghosts D) : Type 0 where
  pub given : (f : OpenFile D) (k : Kept K) (m : Standing K) → IsTrue (g.honest f.disk) → Meets g k f.disk → k.shape ≡ f.books.shape → ReadAsHeld f.books k m → pages_given g f ≡ Some (owner_page m.layout m.table)
  pub pinned : (f : OpenFile D) (k : Kept K) (m : Standing K) → IsTrue (g.honest f.disk) → Meets g k f.disk → k.shape ≡ f.books.shape → ReadAsHeld f.books k m → IsPinnedTo (front_place g f) m.layout m.table

-- nothing is known of the claimed pages of an open file, its disk meets what is kept, and nothing was written on them
pub record IsBegunBeside {K : ℕ} {D : Type 0} (g : Ghosts D) (k : Kept K) (f : OpenFile D) : Type 0 where
  pub unkept : ClaimedAreUnkept k f.books
  pub meets : Meets g k f.disk
  pub none : f.written ≡ []

-- these claimed pages read as what was written on them, what is fresh elsewhere is as before, and the disk meets what is kept beside that
pub record IsWrittenBeside {K : ℕ} {D : Type 0} (g : Ghosts D) (k : Kept K) (pages : List ℕ) (written : List (Owner × List ℕ)) (disk : D) : Type 0 where
  pub fresh : List (Option (List ℕ))
  pub many : length fresh ≡ length k.fresh
  pub others : AreSameBut pages k.fresh fresh
  pub reads : ReadAs fresh pages written
  pub meets : Meets g (with_fresh k fresh) disk

-- while a journal is redone nothing is known of claimed pages; once a page was written on each of them, they read so, and the pages that were fresh before still do; whatever was written, also where it failed, the disk meets what was kept before; and at each moment a crash leaves an image that shows that, with the standing to which all leads
pub record WritingGoesOn (K : ℕ) {D : Type 0} (g : Ghosts D) : Type 0 where
  pub unkept : (b : Books) (k : Kept K) (m : Standing K) (x : Lineage K) (done rest : List (LoggedUpdate K)) → IsRedoing b k m x done rest → ClaimedAreUnkept k b
  pub written : (old new : OpenFile D) (k : Kept K) → IsBegunBeside g k old → KeepsFile K g old new → length new.claimed ≡ length new.written → IsWrittenBeside g k new.claimed new.written new.disk
  pub stays : (old new : OpenFile D) (k : Kept K) → IsOpenFile K g old → IsBegunBeside g k old → KeepsFile K g old new → Meets g k new.disk
  pub moments : (old new : OpenFile D) (k : Kept K) → IsBegunBeside g k old → KeepsFile K g old new → StaysShown g k old.disk new.disk
  pub standing : (old new : OpenFile D) (k : Kept K) (m : Standing K) → Leads k m → k.next ≡ Shut → IsBegunBeside g k old → KeepsFile K g old new → StaysStanding g m old.disk new.disk
