-- When a page spells a bucket, said by its bytes: what stands around the fields, and the order of the keys.
use Rattle.std.specs.Prelude.{◌≡◌, ◌<◌, ◌≤◌, ◌+◌, ◌*◌, ℕ, List, take, codes, slice_index}
use Rattle.std.specs.declared.cmp.Ordering.TheVariants.{Less}
use Rattle.grid_types.specs.declared.sizes.TheConstants.{DATA_AT, HEAD_BYTES, KEY_BYTES, LONGEST_DATA, PAGE_BYTES, RECORD_BYTES}
use Rattle.grid_types.specs.declared.region.Region.{Region}
use Rattle.grid_types.specs.Keys.{key_cmp}
use Rattle.grid_types.specs.Regions.{Within}
use Rattle.page_fields.specs.Fields.{AreZeros}
use Rattle.bucket_page.specs.declared.head.Head.{Head}
use Rattle.bucket_page.specs.OnPage.{numbers_at}

-- a head is framed where the kind and the arity stand in it, and zeros between and behind its fields
pub record IsHeadFramed (K : ℕ) (page : List ℕ) : Type 0 where
  pub kind : take 4 page ≡ codes "GFB1"
  pub arity : slice_index page 11 ≡ K
  pub gap : AreZeros 12 16 page
  pub behind_lo : AreZeros (16 + 8 * K) (16 + KEY_BYTES) page
  pub behind_hi : AreZeros (16 + KEY_BYTES + 8 * K) HEAD_BYTES page

-- a record is framed where its data is no longer than the longest, and zeros stand behind its key and its data
pub record IsRecordFramed (K : ℕ) (page : List ℕ) (at : ℕ) : Type 0 where
  pub short : slice_index page (at + KEY_BYTES) ≤ LONGEST_DATA
  pub behind_key : AreZeros (at + 8 * K) (at + KEY_BYTES) page
  pub behind_data : AreZeros (at + DATA_AT + slice_index page (at + KEY_BYTES)) (at + RECORD_BYTES) page

-- a record is framed, and its key lies in a region
pub record IsRecordIn (K : ℕ) (page : List ℕ) (region : Region K) (at : ℕ) : Type 0 where
  pub framed : IsRecordFramed K page at
  pub inside : Within region.lo region.hi (numbers_at K at page)

-- each of so many records behind the head is framed, with its key in a region
abbrev pub AreRecordsIn : (K : ℕ) → List ℕ → Region K → ℕ → Type 0
AreRecordsIn K page region count = (i : ℕ) → i < count → IsRecordIn K page region (HEAD_BYTES + RECORD_BYTES * i)

-- of so many records behind the head each key stands below the next
abbrev pub KeysAscend : (K : ℕ) → List ℕ → ℕ → Type 0
KeysAscend K page count = (i : ℕ) → i + 1 < count → key_cmp (numbers_at K (HEAD_BYTES + RECORD_BYTES * i) page) (numbers_at K (HEAD_BYTES + RECORD_BYTES * (i + 1)) page) ≡ Less

-- a head is sound where it is framed, the turn is an attribute, and the region is not empty
pub record IsSoundHead (K : ℕ) (page : List ℕ) (head : Head K) : Type 0 where
  pub framed : IsHeadFramed K page
  pub turn : head.turn < K
  pub not_empty : (a : ℕ) → a < K → slice_index head.region.lo a ≤ slice_index head.region.hi a

-- so many records are sound where each is framed and in the region, their keys ascend, and zeros stand behind the last one
pub record AreSoundRecords (K : ℕ) (page : List ℕ) (region : Region K) (count : ℕ) : Type 0 where
  pub each : AreRecordsIn K page region count
  pub ascending : KeysAscend K page count
  pub tail : AreZeros (HEAD_BYTES + RECORD_BYTES * count) PAGE_BYTES page

-- a page with that head is sound where its head and its records are
pub record IsSoundPage (K : ℕ) (page : List ℕ) (head : Head K) : Type 0 where
  pub front : IsSoundHead K page head
  pub records : AreSoundRecords K page head.region head.count
