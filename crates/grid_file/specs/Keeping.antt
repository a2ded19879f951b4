-- What reading and writing leave of an open file, of what is kept on it, and of what a crash may leave.
use Rattle.std.specs.Prelude.{◌≡◌, ◌≢◌, ◌<◌, ℕ, List, length, slice_get, slice_index, slice_index_or, Option, Some, None}
use Rattle.grid_types.specs.declared.owner.Owner.{Owner}
use Rattle.grid_types.specs.declared.shape.Shape.{Shape}
use Rattle.grid_types.specs.Pages.{page_of}
use Rattle.grid_types.specs.Shapes.{data_page}
use Rattle.disk_trait.specs.declared.disk.Disk.{Ghosts}
use Rattle.disk_trait.specs.Calls.{OnlyReads, Changes}
use Rattle.file_images.specs.Kept.{Kept}
use Rattle.file_images.specs.Meets.{Meets}
use Rattle.file_sections.specs.Sections.{StaysShown}
use Rattle.page_states.specs.declared.page_state.PageState.TheVariants.{Claimed}
use Rattle.file_books.specs.Books.{Books, has_page}
use Rattle.file_standing.specs.Steps.{with_fresh}
use Rattle.file_redo.specs.RedoLaws.{AreSameBut}
use Rattle.grid_file.specs.Files.{OpenFile, client}
use Rattle.grid_file.specs.Pages.{page_here}

-- a reading leaves an open file as it was but for its disk, which it only reads: what the disk met it meets, and at each moment a crash leaves an image that shows it
pub record ReadsFile (K : ℕ) {D : Type 0} (g : Ghosts D) (old new : OpenFile D) : Type 0 where
  pub books : new.books ≡ old.books
  pub claimed : new.claimed ≡ old.claimed
  pub written : new.written ≡ old.written
  pub disk : OnlyReads g old.disk new.disk
  pub kept : (k : Kept K) → Meets g k old.disk → Meets g k new.disk
  pub moments : (k : Kept K) → Meets g k old.disk → StaysShown g k old.disk new.disk

-- two images have one length, and the same pages but for these data pages
pub record DiffersOn (s : Shape) (pages : List ℕ) (old new : List ℕ) : Type 0 where
  pub same_length : length new ≡ length old
  pub others : (q : ℕ) → ((i : ℕ) → i < length pages → data_page s (slice_index pages i) ≢ q) → page_of q new ≡ page_of q old

-- pages read as what was written, each in its place: the first as the first that was written, and so on
abbrev pub ReadAsWritten : List (Option (List ℕ)) → List ℕ → List (Owner × List ℕ) → Type 0
ReadAsWritten fresh pages written = (i : ℕ) (w : Owner × List ℕ) → slice_get written i ≡ Some w → slice_index_or fresh (slice_index pages i) None ≡ Some w.1

-- nothing is known of the pages that the client has claimed: what is kept says neither what they always hold nor what they read as
pub record ClaimedAreUnkept {K : ℕ} (k : Kept K) (b : Books) : Type 0 where
  pub shape : k.shape ≡ b.shape
  pub many : length k.fresh ≡ b.shape.pages
  pub always : (p : ℕ) (bytes : List ℕ) → slice_get b.pages p ≡ Some (Claimed client) → slice_get k.always p ≢ Some (Some bytes)
  pub fresh : (p : ℕ) (bytes : List ℕ) → slice_get b.pages p ≡ Some (Claimed client) → slice_get k.fresh p ≢ Some (Some bytes)

-- the disk of an open file meets what is kept on it, and beside that its claimed pages read as what was written; what is fresh elsewhere stays so
pub record HoldsWritten {K : ℕ} {D : Type 0} (g : Ghosts D) (k : Kept K) (f : OpenFile D) : Type 0 where
  pub fresh : List (Option (List ℕ))
  pub many : length fresh ≡ f.books.shape.pages
  pub reads : ReadAsWritten fresh f.claimed f.written
  pub others : AreSameBut f.claimed k.fresh fresh
  pub meets : Meets g (with_fresh k fresh) f.disk

-- the writing of a change leaves books and claimed pages, and changes the disk on these alone; where nothing is known of claimed pages, and the disk meets what is kept beside what was written, it does so with what is written then; and at each moment a crash leaves an image that shows what is kept
pub record KeepsFile (K : ℕ) {D : Type 0} (g : Ghosts D) (old new : OpenFile D) : Type 0 where
  pub books : new.books ≡ old.books
  pub claimed : new.claimed ≡ old.claimed
  pub disk : Changes g (DiffersOn old.books.shape old.claimed) old.disk new.disk
  pub kept : (k : Kept K) → ClaimedAreUnkept k old.books → HoldsWritten g k old → HoldsWritten g k new
  pub moments : (k : Kept K) → ClaimedAreUnkept k old.books → HoldsWritten g k old → StaysShown g k old.disk new.disk

-- other books of a file read as these: shape, session, front, scales, and the numbers of records and of buckets are the same, the same owners have a page at the front, and each has the same one
pub record KeepsReading (old new : Books) : Type 0 where
  pub shape : new.shape ≡ old.shape
  pub session : new.session ≡ old.session
  pub front : new.front ≡ old.front
  pub records : new.records ≡ old.records
  pub buckets : new.buckets ≡ old.buckets
  pub scales : new.scales ≡ old.scales
  pub pages : (o : Owner) → has_page new o ≡ has_page old o
  pub here : (o : Owner) → page_here new o ≡ page_here old o
