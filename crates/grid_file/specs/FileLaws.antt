-- What is promised of an open file at a standing: what readings give, and what the writing of a change comes to.
use Rattle.std.specs.Prelude.{◌≡◌, ℕ, List, [], length, Option, Some, IsTrue}
use Rattle.grid_types.specs.declared.layout_change.LayoutChange.{LayoutChange}
use Rattle.grid_types.specs.declared.update.Update.{Update}
use Rattle.disk_trait.specs.declared.disk.Disk.{Ghosts}
use Rattle.grid_model.specs.Lawful.{IsUpdateOf}
use Rattle.grid_model.specs.Layouts.{BucketBox}
use Rattle.history_pages.specs.NewPages.{new_pages}
use Rattle.history_pages.specs.OwnerPages.{owner_page}
use Rattle.history_pages.specs.PageLaws.{IsChange}
use Rattle.query_paths.specs.Pinned.{IsPinnedTo}
use Rattle.file_images.specs.Kept.{Kept}
use Rattle.file_images.specs.Leads.{Standing}
use Rattle.file_images.specs.Meets.{Meets}
use Rattle.file_books.specs.Books.{Books}
use Rattle.file_standing.specs.Files.{IsFile}
use Rattle.file_standing.specs.Open.{IsOpenAt, StaysStanding}
use Rattle.file_standing.specs.Steps.{IsWritten, with_fresh}
use Rattle.grid_file.specs.Files.{OpenFile, IsOpenFile, with_claim, without_claim}
use Rattle.grid_file.specs.Pages.{pages_given, front_place}
use Rattle.grid_file.specs.Keeping.{KeepsFile}

-- where a file is open at a standing on a disk that tells its content, readings give the page of each owner of its layout and table, and its front has the pages of both
pub record ReadingsTell (K : ℕ) {D : Type 0} (g : Ghosts D) : Type 0 where
  pub given : (f : OpenFile D) (m : Standing K) → IsTrue (g.honest f.disk) → IsOpenAt g f.books m f.disk → pages_given g f ≡ Some (owner_page m.layout m.table)
  pub pinned : (f : OpenFile D) (m : Standing K) → IsTrue (g.honest f.disk) → IsOpenAt g f.books m f.disk → IsPinnedTo (front_place g f) m.layout m.table

-- what is kept on an open file puts it at a standing, its disk meets that, and nothing was written on its claimed pages
pub record IsBegun {K : ℕ} {D : Type 0} (g : Ghosts D) (k : Kept K) (m : Standing K) (f : OpenFile D) : Type 0 where
  pub file : IsFile f.books k m
  pub meets : Meets g k f.disk
  pub none : f.written ≡ []

-- the new pages of a change are written on these claimed pages, and the disk meets what is kept beside them
pub record IsWrittenOut {K : ℕ} {D : Type 0} (g : Ghosts D) (b : Books) (k : Kept K) (m : Standing K) (e : ℕ × BucketBox K) (u : Update K) (n : LayoutChange) (pages : List ℕ) (disk : D) : Type 0 where
  pub fresh : List (Option (List ℕ))
  pub written : IsWritten b m e u n pages fresh
  pub meets : Meets g (with_fresh k fresh) disk

-- a claim begins a change, and what is given back leaves the file where it is; once the writing of a change has written its new pages on all claimed pages, these read so, as a commit asks; whatever it has written, also where it failed, the disk meets what was kept before; and at each moment a crash leaves an image with the standing of before
pub record WritingStands (K : ℕ) {D : Type 0} (g : Ghosts D) : Type 0 where
  pub claims : (f : OpenFile D) (k : Kept K) (m : Standing K) (count : ℕ) → IsFile f.books k m → Meets g k f.disk → IsBegun g k m (with_claim count f)
  pub gives_back : (f : OpenFile D) (k : Kept K) (m : Standing K) → IsFile f.books k m → Meets g k f.disk → IsBegun g k m (without_claim f)
  pub written : (old new : OpenFile D) (k : Kept K) (m : Standing K) (e : ℕ × BucketBox K) (u : Update K) (n : LayoutChange) → IsOpenFile K g new → IsBegun g k m old → KeepsFile K g old new
      → IsChange new.books.shape m.layout m.table u n e → IsUpdateOf K u → new.written ≡ new_pages m.layout m.table u n e → length new.claimed ≡ length new.written → IsWrittenOut g new.books k m e u n new.claimed new.disk
  pub stays : (old new : OpenFile D) (k : Kept K) (m : Standing K) → IsBegun g k m old → KeepsFile K g old new → IsFile new.books k m × Meets g k new.disk
  pub moments : (old new : OpenFile D) (k : Kept K) (m : Standing K) → IsBegun g k m old → KeepsFile K g old new → StaysStanding g m old.disk new.disk
