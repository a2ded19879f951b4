-- What each step makes of the books of a file.
use Rattle.std.specs.Prelude.{◌≡◌, ◌≢◌, ◌<◌, ◌≤◌, ◌+◌, ◌-◌, ◌*◌, ◌^◌, ◌==◌, ℕ, zero, suc, Bool, true, false, List, [], ◌∷◌, length, min, not, if◌then◌else◌, Option, Some, None, IsTrue, ⊤}
use Rattle.std.specs.Option.{unwrap_or}
use Rattle.grid_types.specs.declared.layout_change.LayoutChange.{LayoutChange}
use Rattle.grid_types.specs.declared.layout_change.LayoutChange.TheVariants as note
use Rattle.grid_types.specs.declared.owner.Owner.TheVariants.{Bucket}
use Rattle.grid_types.specs.declared.shape.Shape.{Shape}
use Rattle.grid_model.specs.Cells.{dims}
use Rattle.grid_model.specs.Notes.{scales_after}
use Rattle.grid_model.specs.Roots.{WholeRoot}
use Rattle.directory_changes.specs.Changes.{IsChangeOf, parts_changed}
use Rattle.directory_changes.specs.Fresh.{IsFreshFor}
use Rattle.directory_changes.specs.declared.change.DirectoryChange.{DirectoryChange}
use Rattle.directory_changes.specs.declared.change.DirectoryChange.TheVariants.{Nothing, Patch, Grow}
use Rattle.page_states.specs.Changes.{ArePublishable}
use Rattle.page_states.specs.Effects.{swept}
use Rattle.layout_pages.specs.Steps.{opened_states, owners_renewed, published_states}
use Rattle.file_books.specs.declared.record_change.RecordChange.{RecordChange}
use Rattle.file_books.specs.declared.record_change.RecordChange.TheVariants.{More, Same, Fewer}
use Rattle.file_books.specs.Books.{Books, has_page, AreScalesOf}

-- the number of records after an update; what buckets can't hold is not counted
abbrev pub records_after : ℕ → ℕ → RecordChange → ℕ
records_after most n More = min most (n + 1)
records_after most n Same = min most n
records_after most n Fewer = min most (n - 1)

-- how many buckets there are after a change
abbrev pub buckets_after : ℕ → LayoutChange → ℕ
buckets_after n note.Plain = n
buckets_after n (note.Cut c right) = n + 1
buckets_after n (note.Merge m) = n - 1

-- the scales after a change
abbrev pub scales_after_change : List (List ℕ) → LayoutChange → List (List ℕ)
scales_after_change scales note.Plain = scales
scales_after_change scales (note.Cut c right) = scales_after scales c
scales_after_change scales (note.Merge m) = scales

-- books where a root was opened whose journal has so many used slots: its pages are current at its front, and all others are free
abbrev pub opened_books : Shape → WholeRoot → ℕ → ℕ → Books
opened_books shape w first second = record {
  shape = shape;
  session = w.fields.session;
  front = w.fields.front;
  records = w.fields.records;
  buckets = w.fields.buckets;
  number = w.fields.number;
  rooted_at = w.fields.front;
  trying_at = None;
  half = 0;
  first_used = first;
  second_used = second;
  scales = w.area.scales;
  pages = opened_states shape.pages w.fields.front w.area;
}

-- what is published: a change of a bucket, with what it does to the directory and to the number of records, and the claimed pages that have its new pages, in the order in which they were written
pub record Publishing (K : ℕ) : Type 0 where
  pub bucket : ℕ
  pub note : LayoutChange
  pub directory : DirectoryChange K
  pub pages : List ℕ
  pub change : RecordChange

-- the directory parts that it renews
abbrev pub parts_renewed : {K : ℕ} → Books → Publishing K → List ℕ
parts_renewed b x = parts_changed (dims b.scales) x.directory

-- the books after it: the update has the next place
abbrev pub published_books : {K : ℕ} → Books → Publishing K → Books
published_books b x = record b {
  front = b.front + 1;
  records = records_after (buckets_after b.buckets x.note * b.shape.capacity) b.records x.change;
  buckets = buckets_after b.buckets x.note;
  scales = scales_after_change b.scales x.note;
  pages = published_states (b.front + 1) x.bucket x.note (parts_renewed b x) x.pages b.pages;
}

-- a note and what a change does to the directory are of one kind: a plain one does nothing, a cut at a fresh boundary of an attribute grows it along this attribute, and each other change gives cells another bucket
abbrev pub AreOfOneKind : {K : ℕ} → LayoutChange → DirectoryChange K → Type 0
AreOfOneKind note.Plain Nothing = ⊤
AreOfOneKind (note.Cut c right) (Grow a i cells bucket) = IsTrue c.fresh × (a ≡ c.attribute)
AreOfOneKind (note.Cut c right) (Patch cells bucket) = IsTrue (not c.fresh)
AreOfOneKind (note.Merge m) (Patch cells bucket) = ⊤
AreOfOneKind _ _ = ⊥

-- a cut at a boundary that is called fresh for these scales is at none of them
abbrev pub NotesFresh : List (List ℕ) → LayoutChange → Type 0
NotesFresh scales note.Plain = ⊤
NotesFresh scales (note.Cut c right) = IsFreshFor scales c
NotesFresh scales (note.Merge m) = ⊤

-- the other bucket of a change is there, or not, as its note asks: the right part of a cut has no page yet, and a bucket that is joined with the first one has one
abbrev pub HasOther : Books → ℕ → LayoutChange → Type 0
HasOther b bucket note.Plain = ⊤
HasOther b bucket (note.Cut c right) = (right < b.shape.pages) × (has_page b (Bucket right) ≡ false)
HasOther b bucket (note.Merge m) = (m ≢ bucket) × IsTrue (has_page b (Bucket m))

-- a change may be published, whatever the file says: its bucket has a page, and the other one as the note asks; the directory changes as the note does, which calls no boundary fresh that there is; the scales after it are scales of the file; its new pages are claimed ones, as many as it renews owners; and there is a place for it
pub record IsPublishable {K : ℕ} (b : Books) (x : Publishing K) : Type 0 where
  pub place : b.front + 1 < 2 ^ 63
  pub bucket : IsTrue (has_page b (Bucket x.bucket))
  pub other : HasOther b x.bucket x.note
  pub kind : AreOfOneKind x.note x.directory
  pub directory : IsChangeOf (dims b.scales) x.directory
  pub fresh : NotesFresh b.scales x.note
  pub scales : AreScalesOf K b.shape (scales_after_change b.scales x.note)
  pub claimed : ArePublishable x.pages b.pages
  pub count : length x.pages ≡ length (owners_renewed x.bucket x.note (parts_renewed b x))
  pub few : length x.pages ≤ b.shape.pages

-- of two numbers, one for each half, that of a half
abbrev pub used_of : Books → ℕ → ℕ
used_of b zero = b.first_used
used_of b (suc h) = b.second_used

-- the half that is not current
abbrev pub idle_half : Books → ℕ
idle_half b = if b.half == 0 then 1 else 0

-- the books with so many used slots of a half
abbrev pub with_used : Books → ℕ → ℕ → Books
with_used b zero n = record b { first_used = n }
with_used b (suc h) n = record b { second_used = n }

-- the books after a batch was committed on the next slot of the current half
abbrev pub committed_books : Books → Books
committed_books b = with_used b b.half (used_of b b.half + 1)

-- the books of a new session
abbrev pub session_books : Books → Books
session_books b = record b { session = b.session + 1 }

-- the books once the header page that does not have the newest root is closed: none is tried there
abbrev pub closed_books : Books → Books
closed_books b = record b { trying_at = None }

-- the books of a root that is to be written at the front: the halves' roles are exchanged where the other one is clear
abbrev pub turned_books : Books → Books
turned_books b = record b { trying_at = Some b.front; half = if used_of b (idle_half b) == 0 then idle_half b else b.half }

-- the books once that root stands
abbrev pub rooted_books : Books → Books
rooted_books b = record b { number = b.number + 1; rooted_at = unwrap_or b.trying_at b.rooted_at; trying_at = None }

-- the books once the half that is not current is clear; a full one gives its role to it
abbrev pub cleaned_books : Books → Books
cleaned_books b =
    let c : Books = with_used b (idle_half b) 0 in
    if used_of b b.half == b.shape.slots then record c { half = idle_half b } else c

-- a place, and one more where there is one
abbrev pub with_place : ℕ → Option ℕ → List ℕ
with_place n None = n ∷ []
with_place n (Some m) = n ∷ m ∷ []

-- the places whose pages are kept for roots: that of the newest one, and that of one that is being written or was tried
abbrev pub root_places : Books → List ℕ
root_places b = with_place b.rooted_at b.trying_at

-- the books after a sweep that keeps what roots need: each page that is current at none of their places and was replaced is free
abbrev pub swept_books : Books → Books
swept_books b = record b { pages = swept (root_places b) b.pages }
