-- What an image stands for: the newest root's table, changed by the batches that join it.
use Rattle.std.specs.Prelude.{◌≡◌, ◌≢◌, ◌⊎◌, ℕ, ◌+◌, ◌-◌, ◌*◌, ◌/◌, ◌%◌, ◌<◌, ◌≤◌, List, [], ◌∷◌, ◌++◌, ◌==◌, map, filter, flat_map, length, take, drop, fold, sum, slice_get, slice_index, Option, Some, None, not, nat_lt, if◌then◌else◌, ⊤, IsTrue, All}
use Rattle.std.specs.List as lists
use Rattle.std.specs.List.{list_any}
use Rattle.std.specs.Option.{option_map_or}
use Rattle.grid_types.specs.declared.sizes.TheConstants.{PAGE_BYTES, NUMBERS_ON_PAGE, WORDS_ON_PAGE}
use Rattle.grid_types.specs.declared.shape.Shape.{Shape}
use Rattle.grid_types.specs.declared.layout_change.LoggedUpdate.{LoggedUpdate}
use Rattle.grid_types.specs.Pages.{page_of}
use Rattle.grid_types.specs.Shapes.{is_shape, file_pages, area_pages, header_page, table_page, data_page}
use Rattle.grid_types.specs.Shapes as places
use Rattle.grid_model.specs.Lists.{below}
use Rattle.grid_model.specs.Tables.{Table, effect, with_data}
use Rattle.grid_model.specs.Scales.{scale_of}
use Rattle.grid_model.specs.Cells.{parts}
use Rattle.grid_model.specs.Layouts.{BucketBox, Layout, box, holder, records_inside, directory_part, IsSound}
use Rattle.grid_model.specs.Notes.{updated_key, after_note, IsLawfulNote}
use Rattle.grid_model.specs.Lone.{State, opened, free, renewed, published, record_of, how_many}
use Rattle.grid_model.specs.Spellings.{shape_bytes, RootFields, root_bytes, scale_spelling, list_spelling, bucket_table_spelling, directory_spelling, BucketOf, gate_spelling, LoggedBatch, slot_spelling}
use Rattle.grid_model.specs.Buckets.{SpellsBucket}
use Rattle.grid_model.specs.Lawful.{IsRootOn, Area, IsAreaOf, IsBatch, nowhere}

-- an image is a file of a shape with K attributes: both header pages begin with the shape, and all pages are there
pub record HasShape (K : ℕ) (image : List ℕ) (s : Shape) : Type 0 where
  pub lawful : IsTrue (is_shape s)
  pub attributes : s.k ≡ K
  pub first : take 64 (page_of 0 image) ≡ shape_bytes s
  pub second : take 64 (page_of 1 image) ≡ shape_bytes s
  pub long : file_pages s * PAGE_BYTES ≤ length image

-- the gate of a header page; it is open where it is 1, and closed at any other value
abbrev pub header_gate : List ℕ → ℕ → ℕ
header_gate image h = slice_index (page_of h image) 64

-- the 56 bytes of root fields on a header page
abbrev pub root_fields : List ℕ → ℕ → List ℕ
root_fields image h = take 56 (drop 72 (page_of h image))

-- a header page is open over a root: its gate is open, and its fields spell the root and are lawful
pub record IsOpenOver (s : Shape) (image : List ℕ) (h : ℕ) (r : RootFields) : Type 0 where
  pub gate : header_gate image h ≡ 1
  pub spelled : root_fields image h ≡ root_bytes r
  pub lawful : IsRootOn s h r

-- the other header page than that of a root of this number is closed, or open over a root of a lower number
abbrev pub IsOtherOlder : Shape → ℕ → List ℕ → Type 0
IsOtherOlder s number image = (header_gate image (header_page (number + 1)) ≢ 1) ⊎ ((older : RootFields) × IsOpenOver s image (header_page (number + 1)) older × (older.number < number))

-- the newest root: one of the two header pages is open over it, and the other is closed or open over a root of a lower number
pub record IsNewest (s : Shape) (image : List ℕ) (r : RootFields) : Type 0 where
  pub opens : IsOpenOver s image (header_page r.number) r
  pub other : IsOtherOlder s r.number image

-- the boundaries on the first or the second page of a scale: the first page is filled first
abbrev pub half_of_scale : ℕ → List ℕ → List ℕ
half_of_scale half scale = if half == 0 then take NUMBERS_ON_PAGE scale else drop NUMBERS_ON_PAGE scale

-- page i of a table area that says this: two pages for each scale, then the list of the directory, then the bucket table
abbrev pub area_spelling : ℕ → Area → ℕ → List ℕ
area_spelling root a i =
    if nat_lt i 8 then scale_spelling root i (half_of_scale (i % 2) (scale_of a.scales (i / 2)))
    else (if i == 8 then list_spelling root i a.parts else bucket_table_spelling root i (take WORDS_ON_PAGE (drop (WORDS_ON_PAGE * (i - 9)) a.table)))

-- the table area of a root is spelled: it is lawful for the root, and each of its pages says its part of it
pub record HasArea (s : Shape) (image : List ℕ) (r : RootFields) (a : Area) : Type 0 where
  pub lawful : IsAreaOf s r a
  pub pages : (i : ℕ) → i < area_pages s → page_of (table_page s (header_page r.number) i) image ≡ area_spelling r.number a i

-- the gate page of a half is spelled, with these gates
pub record HasGatesOf (s : Shape) (image : List ℕ) (half : ℕ) (gates : List ℕ) : Type 0 where
  pub count : length gates ≡ s.slots
  pub page : page_of (places.gate_page s half) image ≡ gate_spelling half gates

-- the gates of both halves of the journal
pub record Gates : Type 0 where
  pub first : List ℕ
  pub second : List ℕ

-- the gate pages of both halves are spelled, with these gates
pub record HasGates (s : Shape) (image : List ℕ) (gates : Gates) : Type 0 where
  pub first : HasGatesOf s image 0 gates.first
  pub second : HasGatesOf s image 1 gates.second

-- a slot page spells a batch
pub record SpellsBatch {K : ℕ} (bytes : List ℕ) (b : LoggedBatch K) : Type 0 where
  pub lawful : IsBatch b
  pub spelled : bytes ≡ slot_spelling b

-- the open slots of a half, in order: those whose gate is 1
abbrev pub open_slots_of : List ℕ → ℕ → List (ℕ × ℕ)
open_slots_of gates half = map (λ i. (half, i)) (filter (λ i. slice_index gates i == 1) (below (length gates)))

-- the open slots of the first half, and then those of the second
abbrev pub open_slots : Gates → List (ℕ × ℕ)
open_slots gates = open_slots_of gates.first 0 ++ open_slots_of gates.second 1

-- the slots spell these batches, each its own
pub record HasBatches {K : ℕ} (s : Shape) (image : List ℕ) (slots : List (ℕ × ℕ)) (batches : List (LoggedBatch K)) : Type 0 where
  pub count : length batches ≡ length slots
  pub each : (i : ℕ) (slot : ℕ × ℕ) (b : LoggedBatch K) → slice_get slots i ≡ Some slot → slice_get batches i ≡ Some b → SpellsBatch (page_of (places.slot_page s slot.0 slot.1) image) b

-- the batches of a session
abbrev pub of_session : {K : ℕ} → ℕ → List (LoggedBatch K) → List (LoggedBatch K)
of_session session batches = filter (λ b. b.session == session) batches

-- the batch that joins a place: the first whose first place is the next one
abbrev pub joining : {K : ℕ} → List (LoggedBatch K) → ℕ → Option (LoggedBatch K)
joining batches place = lists.find (λ b. b.first == place + 1) batches

-- from a place on, these batches join without a gap up to another place, where no batch joins
abbrev pub Join : {K : ℕ} → List (LoggedBatch K) → ℕ → List (LoggedBatch K) → ℕ → Type 0
Join batches place [] n = (n ≡ place) × (joining batches place ≡ None)
Join batches place (b ∷ bs) n = (joining batches place ≡ Some b) × Join batches (place + length b.updates) bs n

-- the bucket numbers that a table has
abbrev pub numbers_of : List ℕ → List ℕ
numbers_of table = filter (λ n. not (slice_index table n == nowhere)) (below (length table))

-- the data page of an entry of a table or a list
abbrev pub entry_page : Shape → List ℕ → List ℕ → ℕ → List ℕ
entry_page s image entries i = page_of (data_page s (slice_index entries i)) image

-- the bucket pages of a table spell these buckets, one for each number
pub record HasBuckets {K : ℕ} (s : Shape) (image : List ℕ) (table : List ℕ) (buckets : List (BucketOf K)) : Type 0 where
  pub numbers : map (λ b. b.number) buckets ≡ numbers_of table
  pub each : All (λ b. SpellsBucket s.capacity (entry_page s image table b.number) b) buckets

-- the records of buckets are a table's, where no key stands on two of them
pub record AreRecordsOf {K : ℕ} (buckets : List (BucketOf K)) (t : Table) : Type 0 where
  pub all : fold (λ u r. with_data u r.key.numbers r.value) [] (flat_map (λ b. b.rows) buckets) ≡ t
  pub once : sum (map (λ b. length b.rows) buckets) ≡ length t

-- what is found in an image: the shape, the newest root with its table area, the gates, the batches under open gates, those that are taken, and the root's buckets with their table
pub record Found (K : ℕ) : Type 0 where
  pub shape : Shape
  pub root : RootFields
  pub area : Area
  pub gates : Gates
  pub batches : List (LoggedBatch K)
  pub taken : List (LoggedBatch K)
  pub buckets : List (BucketOf K)
  pub table : Table

-- the updates that are taken, with their notes
abbrev pub updates_taken : {K : ℕ} → Found K → List (LoggedUpdate K)
updates_taken f = flat_map (λ b. b.updates) f.taken

-- an update's effect, whatever its note
abbrev pub logged_effect : {K : ℕ} → Table → LoggedUpdate K → Table
logged_effect t u = effect t u.update

-- this is found in an image: shape, newest root, table area and gates are spelled, so is the batch under each open gate, and the batches of the root's session that join the root's front are taken up to place n
pub record IsFound {K : ℕ} (image : List ℕ) (f : Found K) (n : ℕ) : Type 0 where
  pub shape : HasShape K image f.shape
  pub root : IsNewest f.shape image f.root
  pub area : HasArea f.shape image f.root f.area
  pub gates : HasGates f.shape image f.gates
  pub batches : HasBatches f.shape image (open_slots f.gates) f.batches
  pub taken : Join (of_session f.root.session f.batches) f.root.front f.taken n

-- what is found in an image makes a table at a place: the records of the newest root's buckets, changed by the batches that join it
pub record MakesTable {K : ℕ} (image : List ℕ) (f : Found K) (n : ℕ) (t : Table) : Type 0 where
  pub is_found : IsFound image f n
  pub buckets : HasBuckets f.shape image f.area.table f.buckets
  pub records : AreRecordsOf f.buckets f.table
  pub table : t ≡ fold logged_effect f.table (updates_taken f)

-- an image reads as a table at a place: what is found in it makes this table
pub record Reads (K : ℕ) (image : List ℕ) (n : ℕ) (t : Table) : Type 0 where
  pub found : Found K
  pub makes : MakesTable image found n t

-- the bucket of a box: its number, its region and turn, and the records of the table that are inside of it
abbrev pub bucket_on : {K : ℕ} → Table → ℕ × BucketBox K → BucketOf K
bucket_on t e = record { number = e.0; box = e.1; rows = map record_of (records_inside t e.1.region) }

-- pages spell a layout and a table: each directory part has the numbers of the boxes that have its cells' lowest keys, and each number's page has its box and the records of its region
pub record PagesSpell {K : ℕ} (s : Shape) (image : List ℕ) (parts_at table : List ℕ) (L : Layout K) (t : Table) : Type 0 where
  pub count : length parts_at ≡ parts L.scales
  pub directory : (p : ℕ) → p < parts L.scales → entry_page s image parts_at p ≡ directory_spelling p (directory_part L p)
  pub numbers : map (λ e. e.0) L.boxes ≡ numbers_of table
  pub buckets : (m : ℕ) (b : BucketBox K) → box L m ≡ Some b → SpellsBucket s.capacity (entry_page s image table m) (bucket_on t (m, b))

-- the root's pages spell a layout that is sound for the root's table, and the root has its number of records
pub record RootSpells {K : ℕ} (image : List ℕ) (f : Found K) (L : Layout K) : Type 0 where
  pub scales : L.scales ≡ f.area.scales
  pub pages : PagesSpell f.shape image f.area.parts f.area.table L f.table
  pub sound : IsSound f.shape L f.table
  pub records : f.root.records ≡ length f.table

-- the layout after some updates with their notes
unfoldable pub layout_after : {K : ℕ} → Layout K → List (LoggedUpdate K) → Layout K
layout_after L us = fold (λ M u. after_note M (updated_key u.update) u.note) L us

-- the state after an update that finds its box
abbrev pub redo : {K : ℕ} → State K → LoggedUpdate K → State K
redo s u = option_map_or (λ e. published e u.update u.note s) (holder s.layout (updated_key u.update)) s

-- an update may be taken in a state: its note is lawful, and its new pages are among the pages that neither the root nor the layout has
pub record MayRedo {K : ℕ} (shape : Shape) (s : State K) (u : LoggedUpdate K) : Type 0 where
  pub lawful : IsLawfulNote shape s.layout s.table u.update u.note
  pub pages : (e : ℕ × BucketBox K) → holder s.layout (updated_key u.update) ≡ Some e → how_many (renewed s.layout e u.note) ≤ free shape s

-- each update may be taken, one after the other
abbrev pub MayRedoAll : {K : ℕ} → Shape → State K → List (LoggedUpdate K) → Type 0
MayRedoAll shape s [] = ⊤
MayRedoAll shape s (u ∷ us) = MayRedo shape s u × MayRedoAll shape (redo s u) us

-- the gates up to the last one that is not 0
abbrev pub last_gate : List ℕ → ℕ
last_gate gates = length (filter (λ i. list_any (λ g. not (g == 0)) (drop i gates)) (below (length gates)))

-- the slots up to the last gate of their half that is not 0
abbrev pub written_slots : Gates → List (ℕ × ℕ)
written_slots gates = map (λ i. (0, i)) (below (last_gate gates.first)) ++ map (λ i. (1, i)) (below (last_gate gates.second))

-- of what is found, each slot up to the last gate spells a batch of a session up to the root's
pub record AreWritten {K : ℕ} (image : List ℕ) (f : Found K) : Type 0 where
  pub batches : List (LoggedBatch K)
  pub slots : HasBatches f.shape image (written_slots f.gates) batches
  pub sessions : All (λ b. b.session ≤ f.root.session) batches

-- an image stands for a table at a place: it reads as that, each slot up to the last gate spells a batch of a session up to the root's, the root's pages spell a sound layout, and each update that is taken may be
pub record Stands (K : ℕ) (image : List ℕ) (n : ℕ) (t : Table) : Type 0 where
  pub reads : Reads K image n t
  pub written : AreWritten image reads.found
  pub layout : Layout K
  pub root : RootSpells image reads.found layout
  pub updates : MayRedoAll reads.found.shape (opened reads.found.table layout reads.found.root.front) (updates_taken reads.found)

-- an image has a layout: it reads as a table at some place, and this is the layout that the root's pages spell, changed by the notes of the updates that are taken
pub record IsShaped {K : ℕ} (image : List ℕ) (L : Layout K) : Type 0 where
  pub place : ℕ
  pub table : Table
  pub reads : Reads K image place table
  pub layout : Layout K
  pub root : RootSpells image reads.found layout
  pub after : L ≡ layout_after layout (updates_taken reads.found)
