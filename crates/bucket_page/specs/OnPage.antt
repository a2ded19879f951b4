-- The bucket that the fields of a page tell, each read at its offset.
use Rattle.std.specs.Prelude.{◌≡◌, ◌<◌, ◌≤◌, ◌+◌, ℕ, zero, suc, List, [], ◌∷◌, length, take, drop, get_or, slice_index}
use Rattle.grid_types.specs.declared.sizes.TheConstants.{DATA_AT, HEAD_BYTES, KEY_BYTES, MOST_RECORDS, RECORD_BYTES}
use Rattle.grid_types.specs.declared.update.Record.{Record}
use Rattle.page_fields.specs.Fields.{number}
use Rattle.grid_model.specs.Spellings.{BucketOf}
use Rattle.grid_model.specs.Buckets.{SpellsBucket}
use Rattle.bucket_page.specs.declared.head.Head.{Head}

-- the n numbers of eight bytes from an offset on
abbrev pub numbers_at : ℕ → ℕ → List ℕ → List ℕ
numbers_at zero at page = []
numbers_at (suc n) at page = number 8 (drop at page) ∷ numbers_at n (at + 8) page

-- the data of the record at an offset: as many bytes as the byte in front of them says
abbrev pub data_at : List ℕ → ℕ → List ℕ
data_at page at = take (slice_index page (at + KEY_BYTES)) (drop (at + DATA_AT) page)

-- the record at an offset
abbrev pub record_at : (K : ℕ) → List ℕ → ℕ → Record K
record_at K page at = record { key = record { numbers = numbers_at K at page }; value = data_at page at }

-- the n records from an offset on, one behind the other
abbrev pub records_at : (K : ℕ) → List ℕ → ℕ → ℕ → List (Record K)
records_at K page at zero = []
records_at K page at (suc n) = record_at K page at ∷ records_at K page (at + RECORD_BYTES) n

-- the head that a page tells: the bucket's number, how many records, turn and region
abbrev pub head_told : (K : ℕ) → List ℕ → Head K
head_told K page = record { number = number 4 (drop 4 page); count = number 2 (drop 8 page); turn = slice_index page 10; region = record { lo = numbers_at K 16 page; hi = numbers_at K (16 + KEY_BYTES) page } }

-- the bucket that a page tells: that of its head, with as many records as the head says
abbrev pub bucket_told : (K : ℕ) → List ℕ → BucketOf K
bucket_told K page =
    let h = head_told K page in
    record { number = h.number; box = record { region = h.region; turn = h.turn }; rows = records_at K page HEAD_BYTES h.count }

-- what holds of each bucket with so many records that a page spells
abbrev pub OfBucket : (K : ℕ) → List ℕ → ℕ → (BucketOf K → Type 0) → Type 0
OfBucket K page count P = (capacity : ℕ) (b : BucketOf K) → SpellsBucket capacity page b → length b.rows ≡ count → P b

-- what holds of each bucket that a page spells and that has a record at an index
abbrev pub OfBucketAt : (K : ℕ) → List ℕ → ℕ → (BucketOf K → Type 0) → Type 0
OfBucketAt K page at P = (capacity : ℕ) (b : BucketOf K) → SpellsBucket capacity page b → length b.rows ≤ MOST_RECORDS → at < length b.rows → P b

-- what holds of the record at an index of each bucket that a page spells
abbrev pub OfRecord : (K : ℕ) → List ℕ → ℕ → (Record K → Type 0) → Type 0
OfRecord K page at P = (d : Record K) → OfBucketAt K page at (λ b. P (get_or b.rows at d))
