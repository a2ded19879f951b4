-- One file with one client as one value: its disk, its books, and the pages of the change that is being written.
use Rattle.std.specs.Prelude.{◌≡◌, ◌≢◌, ◌<◌, ◌≤◌, ◌*◌, ◌++◌, ℕ, List, [], length, take, slice_get, slice_index, Some}
use Rattle.grid_types.specs.declared.owner.Owner.{Owner}
use Rattle.grid_types.specs.declared.sizes.TheConstants.{PAGE_BYTES}
use Rattle.grid_types.specs.Shapes.{file_pages}
use Rattle.disk_trait.specs.declared.disk.Disk.{Ghosts}
use Rattle.page_states.specs.declared.page_state.PageState.{PageState}
use Rattle.page_states.specs.declared.page_state.PageState.TheVariants.{Claimed}
use Rattle.page_states.specs.Effects.{free_pages}
use Rattle.file_books.specs.Books.{Books, AreBooksOf}
use Rattle.file_state.specs.Claims.{claimed_books, given_back_books}

-- an open file: its disk, its books, the data pages that are claimed for a change, and what was written on the first of them, for whom
pub record OpenFile (D : Type 0) : Type 0 where
  pub disk : D
  pub books : Books
  pub claimed : List ℕ
  pub written : List (Owner × List ℕ)

-- the one client claims pages as seat 0
abbrev pub client : ℕ
client = 0

-- pages are claimed by a seat, and none is there twice
pub record AreClaimedBy (seat : ℕ) (states : List PageState) (pages : List ℕ) : Type 0 where
  pub each : (i : ℕ) → i < length pages → slice_get states (slice_index pages i) ≡ Some (Claimed seat)
  pub distinct : (i j : ℕ) → i < j → j < length pages → slice_index pages j ≢ slice_index pages i

-- an open file is sound, whatever its pages say: its books are those of a file with K attributes, all its pages lie on the disk, the pages of the change are claimed by the client, and no more of them were written than there are
pub record IsOpenFile (K : ℕ) {D : Type 0} (g : Ghosts D) (f : OpenFile D) : Type 0 where
  pub books_are : AreBooksOf K f.books
  pub size : file_pages f.books.shape * PAGE_BYTES ≤ g.extent f.disk
  pub claimed_are : AreClaimedBy client f.books.pages f.claimed
  pub few : length f.written ≤ length f.claimed

-- a disk and books as an open file where no change is being written
abbrev pub opened_file : {D : Type 0} → D → Books → OpenFile D
opened_file disk books = record { disk = disk; books = books; claimed = []; written = [] }

-- an open file after the client claimed so many pages more: the free ones of the lowest numbers, behind those that it had claimed; nothing is written
abbrev pub with_claim : {D : Type 0} → ℕ → OpenFile D → OpenFile D
with_claim count f = record {
  disk = f.disk;
  books = claimed_books client (take count (free_pages f.books.pages)) f.books;
  claimed = f.claimed ++ take count (free_pages f.books.pages);
  written = [];
}

-- an open file after the client gave back all that it had claimed
abbrev pub without_claim : {D : Type 0} → OpenFile D → OpenFile D
without_claim f = opened_file f.disk (given_back_books client f.books)
