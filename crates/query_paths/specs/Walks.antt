-- A walk through the cells of a box, in the order of their indices: what was read, and what was found.
use Rattle.std.specs.Prelude.{◌≡◌, ◌<◌, ◌≤◌, ◌+◌, ◌*◌, ◌/◌, ◌↔◌, ℕ, Bool, false, List, length, map, slice_index_or, Some, Result, Ok, Err, IfErr, IsTrue, Contains, sum_by, count_by}
use Rattle.grid_types.specs.declared.cell_box.CellBox.{CellBox}
use Rattle.grid_types.specs.declared.query.Query.{Query}
use Rattle.grid_types.specs.declared.refusal.Refusal.{Refusal}
use Rattle.grid_types.specs.declared.refusal.Refusal.TheVariants.{NoMemory, ReadFault, Damaged}
use Rattle.grid_types.specs.declared.sizes.TheConstants.{MOST_RECORDS, WORDS_ON_PAGE}
use Rattle.grid_model.specs.Lists.{is_among, AreDistinct}
use Rattle.grid_model.specs.Cells.{dims, cell_index, part_of, InCellBox}
use Rattle.grid_model.specs.ScaleLaws.{IsCell}
use Rattle.grid_model.specs.Listings.{rows}
use Rattle.grid_model.specs.Tables.{Table, pairs_of}
use Rattle.grid_model.specs.Spellings.{BucketOf}
use Rattle.grid_model.specs.Expected.{SoughtCell}
use Rattle.linear_scales.specs.Queries.{lowest_cell, highest_cell, MeetsQuery}
use Rattle.disk_trait.specs.Causes.{Rose}
use Rattle.query_paths.specs.declared.room.Held.{Held}
use Rattle.query_paths.specs.declared.room.Room.{Room}
use Rattle.query_paths.specs.Pinned.{Place}
use Rattle.query_paths.specs.Paths.{NamesBucket, HasBucket, IsUnexpected}
use Rattle.query_paths.specs.Readings.{IsGoodPart, IsPartRead}

-- a cell of the directory lies in a box of cells
pub record IsBoxCell {K : ℕ} (p : Place) (b : CellBox K) (cell : List ℕ) : Type 0 where
  pub is_cell : IsCell (dims p.scales) cell
  pub inside : InCellBox b cell

-- the page of a part is held as a good one, where one is held
abbrev pub IsHeldGood : {K : ℕ} → Place → Room K → Type 0
IsHeldGood p room = (h : Held) → room.held ≡ Some h → IsGoodPart p h.part room.part.value h.at

-- the numbers of some buckets
abbrev pub bucket_numbers : {K : ℕ} → List (BucketOf K) → List ℕ
bucket_numbers read = map (λ b. b.number) read

-- the directory names a bucket at a cell, whose page is among those that were read, and so is that of the cell's part
pub record IsNamedAmong (p : Place) (cell : List ℕ) (parts numbers : List ℕ) : Type 0 where
  pub number : ℕ
  pub names : NamesBucket p cell number
  pub bucket_read : IsTrue (is_among numbers number)
  pub part_read : IsTrue (is_among parts (part_of p.scales cell))

-- a bucket's page was read for a cell of the box that names it, and is the expected one
pub record IsReadFor {K : ℕ} (p : Place) (b : CellBox K) (bucket : BucketOf K) : Type 0 where
  pub cell : List ℕ
  pub is_in : IsBoxCell p b cell
  pub names : NamesBucket p cell bucket.number
  pub bytes : List ℕ
  pub has : HasBucket p bucket.number (SoughtCell p.scales cell) bytes bucket

-- a part holds a cell of the box
pub record HasBoxCell {K : ℕ} (p : Place) (b : CellBox K) (part : ℕ) : Type 0 where
  pub cell : List ℕ
  pub is_in : IsBoxCell p b cell
  pub lies : part_of p.scales cell ≡ part

-- what a walk has read: parts and buckets, none twice, each for a cell of the box
pub record ReadsOnce {K : ℕ} (p : Place) (b : CellBox K) (parts : List ℕ) (read : List (BucketOf K)) : Type 0 where
  pub distinct_parts : AreDistinct parts
  pub each_part : (part : ℕ) → IsTrue (is_among parts part) → HasBoxCell p b part
  pub distinct : AreDistinct (bucket_numbers read)
  pub each : (bucket : BucketOf K) → Contains read bucket → IsReadFor p b bucket

-- the records found are those of the buckets that match: each test passes as many of the ones as of the others
abbrev pub AreRowsOf : {K : ℕ} → Query K → List (BucketOf K) → Table → Type 0
AreRowsOf q read found = (test : List ℕ × List ℕ → Bool) → count_by test found ≡ sum_by (λ b. count_by test (rows (pairs_of b.rows) q)) read

-- a walk has come to an index: it has read these parts and buckets, each cell of the box with a lower index names a bucket of them, and it holds their matching records; the room has a mark for each bucket, and the last part
pub record IsWalked {K : ℕ} (p : Place) (q : Query K) (b : CellBox K) (i : ℕ) (room : Room K) (start now : ℕ) (holds : Table → Type 0) : Type 0 where
  pub parts : List ℕ
  pub read : List (BucketOf K)
  pub found : Table
  pub reading : ReadsOnce p b parts read
  pub named : (cell : List ℕ) → IsBoxCell p b cell → cell_index (dims p.scales) cell < i → IsNamedAmong p cell parts (bucket_numbers read)
  pub marked : (n : ℕ) → slice_index_or room.marks n false ≡ is_among (bucket_numbers read) n
  pub held : (h : Held) → room.held ≡ Some h → IsTrue (is_among parts h.part) × (h.part ≤ i / WORDS_ON_PAGE)
  pub last : (part : ℕ) → IsTrue (is_among parts part) → (h : Held) × (room.held ≡ Some h) × (part ≤ h.part)
  pub holds_found : holds found
  pub rows_are : AreRowsOf q read found
  pub few : length found ≤ MOST_RECORDS * i
  pub steps : now ≡ start + (length parts + length read)

-- a walk may be refused at a cell so: a reading failed, there is no memory, or the page in the room is not the expected one
abbrev pub IsCellRefusal : {K : ℕ} → Bool → Place → List ℕ → Room K → ℕ → ℕ → Refusal → Type 0
IsCellRefusal lacks p cell room before now NoMemory = IsTrue lacks
IsCellRefusal lacks p cell room before now ReadFault = Rose before now
IsCellRefusal {K} lacks p cell room before now (Damaged at) = IsUnexpected K p cell (SoughtCell p.scales cell) room.part.value room.bucket.value at
IsCellRefusal lacks p cell room before now _ = ⊥

-- a count of failures does not fall, and a refusal at a cell has its cause
pub record HasCellCause {K : ℕ} {T : Type 0} (lacks : Bool) (p : Place) (cell : List ℕ) (room : Room K) (before now : ℕ) (result : Result T Refusal) : Type 0 where
  pub later : before ≤ now
  pub refused : IfErr result (IsCellRefusal lacks p cell room before now)

-- the page of a part that was held stays held, and nothing was read
pub record StaysHeld {K : ℕ} (part : ℕ) (old new : Room K) (before now at : ℕ) : Type 0 where
  pub was : old.held ≡ Some (record { part = part; at = at })
  pub same : new ≡ old
  pub steps : now ≡ before

-- the page of a part that was not held was read, and is held now
pub record IsFreshlyHeld {K : ℕ} (p : Place) (part : ℕ) (old new : Room K) (before now at : ℕ) : Type 0 where
  pub other : (h : Held) → old.held ≡ Some h → h.part ≡ part → ⊥
  pub is : new.held ≡ Some (record { part = part; at = at })
  pub good : IsGoodPart p part new.part.value at
  pub marks : new.marks ≡ old.marks
  pub steps : now ≡ before + 1

-- the page of a part is held now
pub data IsHeldBy {K : ℕ} (p : Place) (part : ℕ) (old new : Room K) (before now at : ℕ) : Type 0 where
  Kept : StaysHeld part old new before now at → IsHeldBy p part old new before now at
  Fresh : IsFreshlyHeld p part old new before now at → IsHeldBy p part old new before now at

-- the page of a part that was not held was read, in one step at most, and this is why it is not held now
pub record IsNotHeld {K : ℕ} (p : Place) (part rose risen : ℕ) (old new : Room K) (before now : ℕ) (e : Refusal) : Type 0 where
  pub other : (h : Held) → old.held ≡ Some h → h.part ≡ part → ⊥
  pub read : IsPartRead p rose risen part new.part.value (Err e)
  pub marks : new.marks ≡ old.marks
  pub least : before ≤ now
  pub steps : now ≤ before + 1

-- the page of a part is held now, or there is a cause
abbrev pub IsHeldNow : {K : ℕ} → Place → ℕ → ℕ → ℕ → Room K → Room K → ℕ → ℕ → Result ℕ Refusal → Type 0
IsHeldNow p part rose risen old new before now (Ok at) = IsHeldBy p part old new before now at
IsHeldNow p part rose risen old new before now (Err e) = IsNotHeld p part rose risen old new before now e

-- a walk that was cut short has made no more steps than these parts and buckets take, none twice, each part one that holds a cell of the box, and each bucket one that the directory names at a cell of the box
pub record IsCutShort {K : ℕ} (p : Place) (b : CellBox K) (start now : ℕ) : Type 0 where
  pub parts : List ℕ
  pub numbers : List ℕ
  pub distinct_parts : AreDistinct parts
  pub each_part : (part : ℕ) → IsTrue (is_among parts part) → HasBoxCell p b part
  pub distinct : AreDistinct numbers
  pub each : (n : ℕ) → IsTrue (is_among numbers n) → (cell : List ℕ) × IsBoxCell p b cell × NamesBucket p cell n
  pub least : start ≤ now
  pub most : now ≤ start + (length parts + length numbers)

-- the box of the cells that a query meets: from the cell of the least key that is asked for to that of the greatest
abbrev pub cells_met : {K : ℕ} → List (List ℕ) → Query K → CellBox K
cells_met scales q = record { lo = lowest_cell scales q.sides; hi = highest_cell scales q.sides }

-- a walk has come to each cell of the box: each names a bucket of those that were read, and it holds their matching records
pub record IsWholeWalk {K : ℕ} (p : Place) (q : Query K) (b : CellBox K) (start now : ℕ) (holds : Table → Type 0) : Type 0 where
  pub parts : List ℕ
  pub read : List (BucketOf K)
  pub found : Table
  pub reading : ReadsOnce p b parts read
  pub named : (cell : List ℕ) → IsBoxCell p b cell → IsNamedAmong p cell parts (bucket_numbers read)
  pub holds_found : holds found
  pub rows_are : AreRowsOf q read found
  pub steps : now ≡ start + (length parts + length read)

-- the box of the cells that a query meets has exactly those in which a key matches
abbrev pub AreCellsMet : {K : ℕ} → List (List ℕ) → Query K → Type 0
AreCellsMet {K} scales q = (cell : List ℕ) → IsCell (dims scales) cell → MeetsQuery K scales q.sides cell ↔ InCellBox (cells_met scales q) cell
