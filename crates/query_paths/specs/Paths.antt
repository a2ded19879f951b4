-- What a path over the pages of a place finds, and why it may find none.
use Rattle.std.specs.Prelude.{◌≡◌, ◌<◌, ◌≤◌, ◌+◌, ◌%◌, ◌^◌, ◌⊎◌, ℕ, Bool, List, map, filter, length, Option, Result, IfErr, IsTrue, slice_index}
use Rattle.grid_types.specs.declared.owner.Owner.{Owner}
use Rattle.grid_types.specs.declared.owner.Owner.TheVariants.{Bucket, Part}
use Rattle.grid_types.specs.declared.query.Query.{Query}
use Rattle.grid_types.specs.declared.query.Side.{Side}
use Rattle.grid_types.specs.declared.region.Region.{Region}
use Rattle.grid_types.specs.Queries.{begin_of, end_of}
use Rattle.grid_types.specs.Regions.{meets}
use Rattle.grid_types.specs.declared.refusal.Refusal.{Refusal}
use Rattle.grid_types.specs.declared.refusal.Refusal.TheVariants.{NoMemory, ReadFault, Damaged}
use Rattle.grid_types.specs.declared.sizes.TheConstants.{WORDS_ON_PAGE}
use Rattle.grid_model.specs.Cells.{dims, cell_of, cell_index, part_of, parts_holding}
use Rattle.grid_model.specs.Layouts.{Layout}
use Rattle.grid_model.specs.ScaleLaws.{IsCell}
use Rattle.grid_model.specs.Tables.{get, pairs_of}
use Rattle.grid_model.specs.Spellings.{BucketOf}
use Rattle.grid_model.specs.Expected.{Sought, SoughtKey, SoughtCell, IsExpectedPart, IsExpectedBucket}
use Rattle.history_pages.specs.SpellingLaws.{cells_in_part}
use Rattle.linear_scales.specs.Queries.{MeetsQuery}
use Rattle.disk_trait.specs.Causes.{Rose}
use Rattle.query_paths.specs.Pinned.{Place, IsPageOf}

-- where a cell stands among the cells of its part
abbrev pub index_in_part : List (List ℕ) → List ℕ → ℕ
index_in_part scales cell = cell_index (dims scales) cell % WORDS_ON_PAGE

-- bytes are an owner's page, as a reading gives it
abbrev pub IsPage : Place → Owner → List ℕ → ℕ → Type 0
IsPage p o bytes at = IsPageOf p.pages p.file_page o bytes at

-- a page is the expected one at a cell: that of the cell's part, as far as this cell goes, where it has these names of buckets, numbers of 32 bits
pub record IsExpectedAt (p : Place) (cell bytes names : List ℕ) : Type 0 where
  pub part : IsExpectedPart bytes (part_of p.scales cell) (cells_in_part p.scales (part_of p.scales cell)) p.numbers (index_in_part p.scales cell) names
  pub in_range : (i : ℕ) → slice_index names i < 2 ^ 32

-- the directory names a bucket at a cell: the page of the cell's part is the expected one, and has that number there
pub record NamesBucket (p : Place) (cell : List ℕ) (number : ℕ) : Type 0 where
  pub bytes : List ℕ
  pub at : ℕ
  pub page : IsPage p (Part (part_of p.scales cell)) bytes at
  pub names : List ℕ
  pub expected : IsExpectedAt p cell bytes names
  pub named : number ≡ slice_index names (index_in_part p.scales cell)

-- the page of a bucket is the expected one for what is sought, and spells this bucket
pub record HasBucket {K : ℕ} (p : Place) (number : ℕ) (sought : Sought) (bytes : List ℕ) (b : BucketOf K) : Type 0 where
  pub at : ℕ
  pub page : IsPage p (Bucket number) bytes at
  pub expected : IsExpectedBucket p.shape bytes number sought b

-- a get found its answer: the bucket that the directory names at the key's cell is the one that has the key, and the answer is what its records have at the key
pub record IsGot (K : ℕ) (p : Place) (key bytes : List ℕ) (answer : Option (List ℕ)) : Type 0 where
  pub number : ℕ
  pub names : NamesBucket p (cell_of p.scales key) number
  pub bucket : BucketOf K
  pub has : HasBucket p number (SoughtKey key) bytes bucket
  pub answer_is : answer ≡ get (pairs_of bucket.rows) key

-- a page that was read is not the expected one: as that of a cell's part it isn't spelled with as many cells as the part has, or names at the cell no bucket that there is; or as that of a bucket no bucket is spelled with that number, and a region with what is sought
pub data IsUnexpected (K : ℕ) (p : Place) (cell : List ℕ) (sought : Sought) (part_bytes bucket_bytes : List ℕ) (at : ℕ) : Type 0 where
  AsPart : IsPage p (Part (part_of p.scales cell)) part_bytes at → ((names : List ℕ) → IsExpectedAt p cell part_bytes names → ⊥) → IsUnexpected K p cell sought part_bytes bucket_bytes at
  AsBucket : (number : ℕ) → NamesBucket p cell number → IsPage p (Bucket number) bucket_bytes at → ((b : BucketOf K) → IsExpectedBucket p.shape bucket_bytes number sought b → ⊥) → IsUnexpected K p cell sought part_bytes bucket_bytes at

-- a get may be refused so: a reading failed, or the page that was read last is not the expected one, and is that page of the file
abbrev pub IsGetRefusal : ℕ → Place → ℕ → ℕ → List ℕ → List ℕ → Refusal → Type 0
IsGetRefusal K p before now key bytes ReadFault = Rose before now
IsGetRefusal K p before now key bytes (Damaged at) = IsUnexpected K p (cell_of p.scales key) (SoughtKey key) bytes bytes at
IsGetRefusal K p before now key bytes _ = ⊥

-- a get's count of failures does not fall, and a refusal has its cause
pub record HasGetCause {T : Type 0} (K : ℕ) (p : Place) (before now : ℕ) (key bytes : List ℕ) (result : Result T Refusal) : Type 0 where
  pub later : before ≤ now
  pub refused : IfErr result (IsGetRefusal K p before now key bytes)

-- a page that was read for a cell in which a key matches is not the expected one
pub record IsUnexpectedMet (K : ℕ) (p : Place) (sides : List Side) (part_bytes bucket_bytes : List ℕ) (at : ℕ) : Type 0 where
  pub cell : List ℕ
  pub is_cell : IsCell (dims p.scales) cell
  pub met : MeetsQuery K p.scales sides cell
  pub unexpected : IsUnexpected K p cell (SoughtCell p.scales cell) part_bytes bucket_bytes at

-- a count or a listing may be refused so: a reading failed, there is no memory where it may lack, or one of the two pages that were read last is not the expected one, and is that page of the file
abbrev pub IsQueryRefusal : ℕ → Bool → Place → List Side → List ℕ → List ℕ → ℕ → ℕ → Refusal → Type 0
IsQueryRefusal K lacks p sides part_bytes bucket_bytes before now NoMemory = IsTrue lacks
IsQueryRefusal K lacks p sides part_bytes bucket_bytes before now ReadFault = Rose before now
IsQueryRefusal K lacks p sides part_bytes bucket_bytes before now (Damaged at) = IsUnexpectedMet K p sides part_bytes bucket_bytes at
IsQueryRefusal K lacks p sides part_bytes bucket_bytes before now _ = ⊥

-- a query's count of failures does not fall, and a refusal has its cause
pub record HasQueryCause (K : ℕ) {T : Type 0} (lacks : Bool) (p : Place) (sides : List Side) (part_bytes bucket_bytes : List ℕ) (before now : ℕ) (result : Result T Refusal) : Type 0 where
  pub later : before ≤ now
  pub refused : IfErr result (IsQueryRefusal K lacks p sides part_bytes bucket_bytes before now)

-- the region of the keys that are asked for, from the least to the greatest
abbrev pub region_asked : {K : ℕ} → Query K → Region K
region_asked q = record { lo = map begin_of q.sides; hi = map end_of q.sides }

-- how many pages a query takes: the directory parts that hold a cell that it meets, and the boxes that it meets
unfoldable pub pages_of_query : {K : ℕ} → Layout K → Query K → ℕ
pages_of_query L q = length (parts_holding L.scales (region_asked q)) + length (filter (λ e. meets e.1.region q.sides) L.boxes)

-- a cell's bucket was judged: the page of the number that the directory names there spells a bucket of that number, and its region has the keys of a cell that the query meets and that names it
pub record IsJudged (K : ℕ) (p : Place) (sides : List Side) (cell : List ℕ) : Type 0 where
  pub number : ℕ
  pub names : NamesBucket p cell number
  pub other : List ℕ
  pub other_met : MeetsQuery K p.scales sides other
  pub other_names : NamesBucket p other number
  pub bytes : List ℕ
  pub bucket : BucketOf K
  pub has : HasBucket p number (SoughtCell p.scales other) bytes bucket

-- the bucket of each cell that a query meets was judged
abbrev pub AreJudged : ℕ → Place → List Side → Type 0
AreJudged K p sides = (cell : List ℕ) → IsCell (dims p.scales) cell → MeetsQuery K p.scales sides cell → IsJudged K p sides cell

-- a refusal that says nothing of a page: a reading failed, or there is no memory
abbrev pub IsFaultOrLack : Refusal → Type 0
IsFaultOrLack e = (e ≡ ReadFault) ⊎ (e ≡ NoMemory)
