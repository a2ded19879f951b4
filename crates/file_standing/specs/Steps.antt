-- What each step makes of what is kept on a file, beside what it makes of the books.
use Rattle.std.specs.Prelude.{◌≡◌, ◌+◌, ◌==◌, ℕ, List, [], ◌∷◌, fold, length, replicate, is_some, if◌then◌else◌, Option, None}
use Rattle.grid_types.specs.declared.layout_change.LayoutChange.{LayoutChange}
use Rattle.grid_types.specs.declared.owner.Owner.TheVariants.{Bucket, Part}
use Rattle.grid_types.specs.declared.update.Update.{Update}
use Rattle.grid_types.specs.declared.update.Update.TheVariants.{Put, Remove}
use Rattle.grid_model.specs.Cells.{parts}
use Rattle.grid_model.specs.Lawful.{IsUpdateOf, nowhere}
use Rattle.grid_model.specs.Layouts.{BucketBox}
use Rattle.grid_model.specs.Roots.{WholeRoot}
use Rattle.grid_model.specs.Spellings.{LoggedBatch}
use Rattle.grid_model.specs.Tables.{Table, get}
use Rattle.directory_changes.specs.Changes.{directory_change}
use Rattle.history_pages.specs.KnownPages.{settle_page}
use Rattle.history_pages.specs.NewPages.{new_pages}
use Rattle.history_pages.specs.PageLaws.{IsChange}
use Rattle.page_states.specs.Changes.{ArePublishable}
use Rattle.page_states.specs.Current.{TellsPages}
use Rattle.file_images.specs.Kept.{Kept}
use Rattle.file_images.specs.Leads.{Standing}
use Rattle.file_images.specs.Steps.{without_pages, with_slot, with_turned, with_shut}
use Rattle.layout_pages.specs.HoldingLaws.{ReadAs}
use Rattle.layout_pages.specs.Steps.{gone_pages}
use Rattle.file_books.specs.Books.{Books}
use Rattle.file_books.specs.declared.record_change.RecordChange.{RecordChange}
use Rattle.file_books.specs.declared.record_change.RecordChange.TheVariants.{More, Same, Fewer}
use Rattle.file_books.specs.Effects.{Publishing, used_of, idle_half, root_places}

-- what is kept after a sweep: the pages that it frees are not asked for any more
abbrev pub swept_kept : {K : ℕ} → Books → Kept K → Kept K
swept_kept b k = without_pages k (gone_pages (root_places b) b.pages)

-- what an update does to the number of records of a table
abbrev pub record_change : {K : ℕ} → Table → Update K → RecordChange
record_change t (Put r) = if is_some (get t r.key.numbers) then Same else More
record_change t (Remove key) = Fewer

-- a change at a standing, as it is published on these claimed pages
abbrev pub publishing : {K : ℕ} → Standing K → ℕ × BucketBox K → Update K → LayoutChange → List ℕ → Publishing K
publishing m e u n pages = record { bucket = e.0; note = n; directory = directory_change m.layout e n; pages = pages; change = record_change m.table u }

-- the batch of one update at the next place
abbrev pub batch_of_one : {K : ℕ} → Books → Update K → LayoutChange → LoggedBatch K
batch_of_one b u n = record { session = b.session; first = b.front + 1; updates = record { update = u; note = n } ∷ [] }

-- a change at a standing whose new pages were written to claimed pages, as which these read
pub record IsWritten {K : ℕ} (b : Books) (m : Standing K) (e : ℕ × BucketBox K) (u : Update K) (n : LayoutChange) (pages : List ℕ) (fresh : List (Option (List ℕ))) : Type 0 where
  pub change : IsChange b.shape m.layout m.table u n e
  pub update : IsUpdateOf K u
  pub claimed : ArePublishable pages b.pages
  pub reads : ReadAs fresh pages (new_pages m.layout m.table u n e)

-- what is kept while the new pages of a change read so
abbrev pub with_fresh : {K : ℕ} → Kept K → List (Option (List ℕ)) → Kept K
with_fresh k fresh = record k { fresh = fresh }

-- what is kept once a change was committed and published: its batch counts, what its new pages read as they always hold, and no page is fresh
abbrev pub committed_kept : {K : ℕ} → Books → Kept K → List ℕ → List (Option (List ℕ)) → LoggedBatch K → Kept K
committed_kept b k pages fresh d = record (with_slot k d) { always = fold (settle_page fresh) k.always pages; fresh = replicate b.shape.pages None }

-- what is kept of a root that is to be written: the halves' roles are exchanged where the other one is clear
abbrev pub turned_kept : {K : ℕ} → Books → Kept K → Kept K
turned_kept b k = if used_of b (idle_half b) == 0 then with_turned k else k

-- what is kept once the half that is not current is clear; a full one gives its role to it
abbrev pub cleaned_kept : {K : ℕ} → Books → Kept K → Kept K
cleaned_kept b k = if used_of b b.half == b.shape.slots then with_turned (with_shut k (idle_half b)) else with_shut k (idle_half b)

-- a root is the next one of the books: it has the next number, their session, front, records and buckets, the boundaries of each scale, and tells the current page of each bucket number and of each directory part
pub record IsNextRoot (b : Books) (w : WholeRoot) : Type 0 where
  pub number : w.fields.number ≡ b.number + 1
  pub session : w.fields.session ≡ b.session
  pub front : w.fields.front ≡ b.front
  pub records : w.fields.records ≡ b.records
  pub scales : w.area.scales ≡ b.scales
  pub numbers : length w.area.table ≡ b.shape.pages
  pub buckets : TellsPages Bucket nowhere b.pages w.area.table (length w.area.table)
  pub count : length w.area.parts ≡ parts b.scales
  pub directory : TellsPages Part nowhere b.pages w.area.parts (length w.area.parts)
