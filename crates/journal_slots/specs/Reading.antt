-- What stands in the bytes of a slot page, at each place.
use Rattle.std.specs.Prelude.{◌≡◌, ◌<◌, ◌≤◌, ◌^◌, ◌+◌, ◌*◌, ℕ, List, cond, length, take, drop, get_or, slice_index, ⊤}
use Rattle.grid_types.specs.declared.layout_change.Cut.{Cut}
use Rattle.grid_types.specs.declared.layout_change.LayoutChange.{LayoutChange}
use Rattle.grid_types.specs.declared.layout_change.LayoutChange.TheVariants as note
use Rattle.grid_types.specs.declared.layout_change.LoggedUpdate.{LoggedUpdate}
use Rattle.grid_types.specs.declared.update.Record.{Record}
use Rattle.grid_types.specs.declared.update.Update.{Update}
use Rattle.grid_types.specs.declared.update.Update.TheVariants.{Put, Remove}
use Rattle.grid_types.specs.declared.sizes.TheConstants.{HEAD_BYTES, UPDATE_BYTES, LONGEST_DATA}
use Rattle.journal_slots.specs.declared.lawful.TheConstants.{LAST_PLACE}
use Rattle.page_fields.specs.Fields.{number}
use Rattle.page_fields.specs.Corners.{CornerAt}
use Rattle.grid_model.specs.Spellings.{LoggedBatch}

-- a cut stands in the bytes of an update: the kind of its boundary, its attribute, its boundary and the new bucket
pub record CutAt (page : List ℕ) (at : ℕ) (c : Cut) (right : ℕ) : Type 0 where
  pub kind : slice_index page (at + 1) ≡ cond c.fresh 2 1
  pub attribute : c.attribute ≡ slice_index page (at + 2)
  pub boundary : c.value ≡ number 8 (drop (at + 8) page)
  pub in_range : c.value < 2 ^ 64
  pub bucket : right ≡ number 4 (drop (at + 4) page)
  pub bucket_in_range : right < 2 ^ 32

-- a merge stands in the bytes of an update: its kind, and the neighbour
pub record MergeAt (page : List ℕ) (at with : ℕ) : Type 0 where
  pub kind : slice_index page (at + 1) ≡ 3
  pub bucket : with ≡ number 4 (drop (at + 4) page)
  pub bucket_in_range : with < 2 ^ 32

-- a note stands in the bytes of an update
abbrev pub NoteAt : List ℕ → ℕ → LayoutChange → Type 0
NoteAt page at note.Plain = slice_index page (at + 1) ≡ 0
NoteAt page at (note.Cut c right) = CutAt page at c right
NoteAt page at (note.Merge m) = MergeAt page at m

-- a put stands in the bytes of an update: its kind, its key, and as many bytes of data as one byte says
pub record PutAt (K : ℕ) (page : List ℕ) (at : ℕ) (r : Record K) : Type 0 where
  pub kind : slice_index page at ≡ 1
  pub key : CornerAt K page (at + 16) r.key.numbers
  pub value : r.value ≡ take (slice_index page (at + 3)) (drop (at + 48) page)
  pub short : slice_index page (at + 3) ≤ LONGEST_DATA

-- a remove stands in the bytes of an update: its kind and its key
pub record RemoveAt (K : ℕ) (page : List ℕ) (at : ℕ) (key : List ℕ) : Type 0 where
  pub kind : slice_index page at ≡ 2
  pub key_is : CornerAt K page (at + 16) key

-- a change of the table stands in the bytes of an update
abbrev pub ChangeAt : (K : ℕ) → List ℕ → ℕ → Update K → Type 0
ChangeAt K page at (Put r) = PutAt K page at r
ChangeAt K page at (Remove k) = RemoveAt K page at k.numbers

-- an update with its note stands at an offset
pub record NotedAt (K : ℕ) (page : List ℕ) (at : ℕ) (u : LoggedUpdate K) : Type 0 where
  pub update : ChangeAt K page at u.update
  pub note : NoteAt page at u.note

-- the updates stand one behind the other, from the end of the head on
abbrev pub UpdatesAt : (K : ℕ) → List ℕ → List (LoggedUpdate K) → Type 0
UpdatesAt K page us = (i : ℕ) (d : LoggedUpdate K) → i < length us → NotedAt K page (HEAD_BYTES + UPDATE_BYTES * i) (get_or us i d)

-- a batch stands in a page: each field at its offset
pub record BatchAt (K : ℕ) (page : List ℕ) (b : LoggedBatch K) : Type 0 where
  pub session : b.session ≡ number 8 (drop 8 page)
  pub in_range : b.session < 2 ^ 64
  pub first : b.first ≡ number 8 (drop 16 page)
  pub count : length b.updates ≡ number 2 (drop 4 page)
  pub updates : UpdatesAt K page b.updates

-- a note fits its update: cuts of one of the K attributes stand with puts, merges with removes
abbrev pub NoteFits : {K : ℕ} → Update K → LayoutChange → Type 0
NoteFits (Put r) note.Plain = ⊤
NoteFits {K} (Put r) (note.Cut c right) = c.attribute < K
NoteFits (Put r) (note.Merge m) = ⊥
NoteFits (Remove k) note.Plain = ⊤
NoteFits (Remove k) (note.Cut c right) = ⊥
NoteFits (Remove k) (note.Merge m) = ⊤

-- each note fits its update
abbrev pub AllNotesFit : {K : ℕ} → List (LoggedUpdate K) → Type 0
AllNotesFit {K} us = (i : ℕ) (d : LoggedUpdate K) → i < length us → NoteFits (get_or us i d).update (get_or us i d).note

-- the fields of a batch are lawful, beside the ranges of their types: it has an update, its place is in its limits, and each note fits
pub record AreLawfulBatchFields {K : ℕ} (b : LoggedBatch K) : Type 0 where
  pub some : 1 ≤ length b.updates
  pub first : 1 ≤ b.first
  pub last : b.first ≤ LAST_PLACE
  pub notes : AllNotesFit b.updates
