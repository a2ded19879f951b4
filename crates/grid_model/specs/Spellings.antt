-- What bytes spell each kind of page. Numbers stand with the highest byte first, and bytes that are not named are 0.
use Rattle.std.specs.Prelude.{ℕ, List, [], ◌∷◌, ◌++◌, cond, length, codes, replicate}
use Rattle.std.specs.List.{flat_map}
use Rattle.grid_types.specs.declared.sizes.TheConstants.{HEAD_BYTES, BODY_BYTES, KEY_BYTES, DATA_ROOM, LONGEST_DATA, UPDATE_BYTES}
use Rattle.page_fields.specs.Fields.{bytes_of}
use Rattle.page_fields.specs.Padded.{padded, numbers}
use Rattle.grid_types.specs.declared.shape.Shape.{Shape}
use Rattle.grid_types.specs.declared.update.Record.{Record}
use Rattle.grid_types.specs.declared.update.Update.{Update}
use Rattle.grid_types.specs.declared.update.Update.TheVariants.{Put, Remove}
use Rattle.grid_types.specs.declared.layout_change.LayoutChange.{LayoutChange}
use Rattle.grid_types.specs.declared.layout_change.LayoutChange.TheVariants as note
use Rattle.grid_types.specs.declared.layout_change.LoggedUpdate.{LoggedUpdate}
use Rattle.grid_model.specs.Layouts.{BucketBox}
use Rattle.grid_model.specs.Notes.{updated_key}

-- a page is a head and a body, both filled up with zeros
unfoldable pub page : List ℕ → List ℕ → List ℕ
page head body = padded HEAD_BYTES head ++ padded BODY_BYTES body

-- the front of both header pages: the file's name, its version, and the shape
unfoldable pub shape_bytes : Shape → List ℕ
shape_bytes s = padded 64 (codes "GRIDFILE" ++ (bytes_of 2 1 ++ (s.k ∷ 0 ∷ (bytes_of 2 s.capacity ++ (0 ∷ 0 ∷ (bytes_of 4 s.pages ++ (bytes_of 4 s.slots ++ (bytes_of 4 s.boundaries ++ bytes_of 4 s.cells))))))))

-- what a header page says of a root: its number, its session, its front, how many records it has, how many boundaries each scale has, and how many directory parts and buckets there are
pub record RootFields : Type 0 where
  pub number : ℕ
  pub session : ℕ
  pub front : ℕ
  pub records : ℕ
  pub boundaries : List ℕ
  pub parts : ℕ
  pub buckets : ℕ

-- the 56 bytes of a root's fields
unfoldable pub root_bytes : RootFields → List ℕ
root_bytes r = bytes_of 8 r.number ++ (bytes_of 8 r.session ++ (bytes_of 8 r.front ++ (bytes_of 8 r.records ++ (padded 16 (numbers 4 r.boundaries) ++ (bytes_of 4 r.parts ++ bytes_of 4 r.buckets)))))

-- the head of a page of a table area: its kind, its index in the area, how many entries it has, and the root's number
unfoldable pub area_head : List ℕ → ℕ → ℕ → ℕ → List ℕ
area_head kind index count root = kind ++ (bytes_of 4 index ++ (bytes_of 4 count ++ (0 ∷ 0 ∷ 0 ∷ 0 ∷ bytes_of 8 root)))

-- a page with boundaries of a scale
unfoldable pub scale_spelling : ℕ → ℕ → List ℕ → List ℕ
scale_spelling root index boundaries = page (area_head (codes "GFS1") index (length boundaries) root) (numbers 8 boundaries)

-- the page with the data page of each directory part
unfoldable pub list_spelling : ℕ → ℕ → List ℕ → List ℕ
list_spelling root index pages = page (area_head (codes "GFL1") index (length pages) root) (numbers 4 pages)

-- a page with the data pages of a thousand bucket numbers
unfoldable pub bucket_table_spelling : ℕ → ℕ → List ℕ → List ℕ
bucket_table_spelling root index pages = page (area_head (codes "GFT1") index (length pages) root) (numbers 4 pages)

-- a directory page: its part, and the bucket number of each cell
unfoldable pub directory_spelling : ℕ → List ℕ → List ℕ
directory_spelling part cells = page (codes "GFD1" ++ (bytes_of 4 part ++ bytes_of 4 (length cells))) (numbers 4 cells)

-- a record is its key, a byte for the length of its data, and the data, key and data filled up with zeros
unfoldable pub record_bytes : {K : ℕ} → Record K → List ℕ
record_bytes r = padded KEY_BYTES (numbers 8 r.key.numbers) ++ (length r.value ∷ padded DATA_ROOM r.value)

-- what a bucket page says: its number, its box and its records
pub record BucketOf (K : ℕ) : Type 0 where
  pub number : ℕ
  pub box : BucketBox K
  pub rows : List (Record K)

-- the head of a bucket page: the kind, the bucket's number, how many records, turn and arity, and the two corners of the region
unfoldable pub bucket_head : {K : ℕ} → BucketOf K → List ℕ
bucket_head {K} b = codes "GFB1" ++ (bytes_of 4 b.number ++ (bytes_of 2 (length b.rows) ++ (b.box.turn ∷ K ∷ 0 ∷ 0 ∷ 0 ∷ 0
    ∷ (padded KEY_BYTES (numbers 8 b.box.region.lo) ++ (padded KEY_BYTES (numbers 8 b.box.region.hi) ++ replicate 16 0)))))

-- a bucket page is the head, and the records one after the other, filled up with zeros
unfoldable pub bucket_spelling : {K : ℕ} → BucketOf K → List ℕ
bucket_spelling b = bucket_head b ++ padded BODY_BYTES (flat_map record_bytes b.rows)

-- a gate page: the half of the journal, and the gate of each slot
unfoldable pub gate_spelling : ℕ → List ℕ → List ℕ
gate_spelling half gates = page (codes "GFG1" ++ bytes_of 4 half) gates

-- an update is 1 for a put and 2 for a remove
abbrev pub update_code : {K : ℕ} → Update K → ℕ
update_code (Put r) = 1
update_code (Remove k) = 2

-- a note is 0 for plain, 1 for a cut at an existing boundary, 2 for a refinement, 3 for a merge
abbrev pub note_code : LayoutChange → ℕ
note_code note.Plain = 0
note_code (note.Cut c right) = cond c.fresh 2 1
note_code (note.Merge m) = 3

-- the attribute of a cut
abbrev pub note_attribute : LayoutChange → ℕ
note_attribute note.Plain = 0
note_attribute (note.Cut c right) = c.attribute
note_attribute (note.Merge m) = 0

-- the new bucket of a cut, or the neighbour of a merge
abbrev pub note_bucket : LayoutChange → ℕ
note_bucket note.Plain = 0
note_bucket (note.Cut c right) = right
note_bucket (note.Merge m) = m

-- the boundary of a cut
abbrev pub note_boundary : LayoutChange → ℕ
note_boundary note.Plain = 0
note_boundary (note.Cut c right) = c.value
note_boundary (note.Merge m) = 0

-- the data of an update; a remove has none
abbrev pub update_data : {K : ℕ} → Update K → List ℕ
update_data (Put r) = r.value
update_data (Remove k) = []

-- the bytes of an update with its note
unfoldable pub update_bytes : {K : ℕ} → LoggedUpdate K → List ℕ
update_bytes u = padded UPDATE_BYTES (update_code u.update ∷ note_code u.note ∷ note_attribute u.note ∷ length (update_data u.update)
    ∷ (bytes_of 4 (note_bucket u.note) ++ (bytes_of 8 (note_boundary u.note) ++ (padded KEY_BYTES (numbers 8 (updated_key u.update)) ++ padded LONGEST_DATA (update_data u.update)))))

-- a batch: the session that wrote it, the place of its first update, and its updates
pub record LoggedBatch (K : ℕ) : Type 0 where
  pub session : ℕ
  pub first : ℕ
  pub updates : List (LoggedUpdate K)

-- the head of a slot page: its kind, how many updates, the session and the place of the first update, filled up with zeros
unfoldable pub slot_head : {K : ℕ} → LoggedBatch K → List ℕ
slot_head b = padded HEAD_BYTES (codes "GFJ1" ++ (bytes_of 2 (length b.updates) ++ (0 ∷ 0 ∷ (bytes_of 8 b.session ++ bytes_of 8 b.first))))

-- a slot page is the head, and the updates one after the other, filled up with zeros
unfoldable pub slot_spelling : {K : ℕ} → LoggedBatch K → List ℕ
slot_spelling b = slot_head b ++ padded BODY_BYTES (flat_map update_bytes b.updates)
