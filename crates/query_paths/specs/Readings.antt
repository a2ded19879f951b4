-- What a reading that judges finds.
use Rattle.std.specs.Prelude.{◌≡◌, ◌≤◌, ℕ, List, Result, Ok, Err, IsTrue, length}
use Rattle.grid_types.specs.declared.owner.Owner.TheVariants.{Bucket, Part}
use Rattle.grid_types.specs.declared.refusal.Refusal.{Refusal}
use Rattle.grid_types.specs.declared.refusal.Refusal.TheVariants.{ReadFault, Damaged}
use Rattle.grid_types.specs.declared.sizes.TheConstants.{MOST_RECORDS}
use Rattle.grid_model.specs.Lists.{is_among}
use Rattle.grid_model.specs.Spellings.{BucketOf}
use Rattle.grid_model.specs.Buckets.{SpellsBucket}
use Rattle.grid_model.specs.Expected.{SoughtCell, IsExpectedBucket}
use Rattle.history_pages.specs.SpellingLaws.{cells_in_part}
use Rattle.bucket_page.specs.declared.head.Head.{Head}
use Rattle.bucket_page.specs.OnPage.{head_told, bucket_told}
use Rattle.directory_pages.specs.Spelling.{IsDirectoryPage}
use Rattle.disk_trait.specs.Causes.{Rose}
use Rattle.query_paths.specs.Pinned.{Place}
use Rattle.query_paths.specs.Paths.{IsPage, HasBucket}

-- the page of a part was read, and is a directory page of that part with as many cells as it has
pub record IsGoodPart (p : Place) (part : ℕ) (bytes : List ℕ) (at : ℕ) : Type 0 where
  pub page : IsPage p (Part part) bytes at
  pub spelled : IsDirectoryPage part (cells_in_part p.scales part) bytes

-- the page of a part was read, and is no directory page of that part with as many cells as it has
pub record IsBadPart (p : Place) (part : ℕ) (bytes : List ℕ) (at : ℕ) : Type 0 where
  pub page : IsPage p (Part part) bytes at
  pub not_spelled : IsDirectoryPage part (cells_in_part p.scales part) bytes → ⊥

-- a reading of a part is told as good or as bad, or failed
abbrev pub IsPartRead : Place → ℕ → ℕ → ℕ → List ℕ → Result ℕ Refusal → Type 0
IsPartRead p before now part bytes (Ok at) = IsGoodPart p part bytes at
IsPartRead p before now part bytes (Err ReadFault) = Rose before now
IsPartRead p before now part bytes (Err (Damaged at)) = IsBadPart p part bytes at
IsPartRead p before now part bytes (Err _) = ⊥

-- the page of a bucket was read, spells a bucket of that number, and has that head
pub record IsGoodBucket (K : ℕ) (p : Place) (number : ℕ) (bytes : List ℕ) (at : ℕ) (head : Head K) : Type 0 where
  pub named : IsTrue (is_among p.numbers number)
  pub page : IsPage p (Bucket number) bytes at
  pub spelled : SpellsBucket p.shape.capacity bytes (bucket_told K bytes)
  pub head_is : head ≡ head_told K bytes
  pub number_is : head.number ≡ number
  pub few : p.shape.capacity ≤ MOST_RECORDS
  pub fits : head.count ≤ p.shape.capacity
  pub rows : length (bucket_told K bytes).rows ≡ head.count

-- the page of a bucket was read, and spells no bucket of that number
pub record IsBadBucket (K : ℕ) (p : Place) (number : ℕ) (bytes : List ℕ) (at : ℕ) : Type 0 where
  pub named : IsTrue (is_among p.numbers number)
  pub page : IsPage p (Bucket number) bytes at
  pub not_spelled : (b : BucketOf K) → SpellsBucket p.shape.capacity bytes b → b.number ≡ number → ⊥

-- no bucket has a number that a page names, which is that page of the file; nothing was read
pub record NamesNone (p : Place) (number directory : ℕ) (before bytes : List ℕ) (at : ℕ) : Type 0 where
  pub not_named : IsTrue (is_among p.numbers number) → ⊥
  pub same_bytes : bytes ≡ before
  pub directory_is : at ≡ directory

-- a bucket's page is damaged, or that of the directory that names it
pub data IsDamagedBucket (K : ℕ) (p : Place) (number directory : ℕ) (before bytes : List ℕ) (at : ℕ) : Type 0 where
  Nameless : NamesNone p number directory before bytes at → IsDamagedBucket K p number directory before bytes at
  Unspelled : IsBadBucket K p number bytes at → IsDamagedBucket K p number directory before bytes at

-- a reading of a bucket that a directory page names is told as good or as damaged, or failed
abbrev pub IsBucketRead : (K : ℕ) → Place → ℕ → ℕ → ℕ → ℕ → List ℕ → List ℕ → Result (ℕ × Head K) Refusal → Type 0
IsBucketRead K p rose now number directory before bytes (Ok r) = IsGoodBucket K p number bytes r.0 r.1
IsBucketRead K p rose now number directory before bytes (Err ReadFault) = Rose rose now
IsBucketRead K p rose now number directory before bytes (Err (Damaged at)) = IsDamagedBucket K p number directory before bytes at
IsBucketRead K p rose now number directory before bytes (Err _) = ⊥

-- the page of a bucket was read for a cell, is the expected one, and has that head
pub record IsGoodForCell (K : ℕ) (p : Place) (cell : List ℕ) (number : ℕ) (bytes : List ℕ) (head : Head K) : Type 0 where
  pub named : IsTrue (is_among p.numbers number)
  pub has : HasBucket p number (SoughtCell p.scales cell) bytes (bucket_told K bytes)
  pub few : head.count ≤ MOST_RECORDS
  pub rows : length (bucket_told K bytes).rows ≡ head.count

-- the page of a bucket was read for a cell, and is not the expected one
pub record IsBadForCell (K : ℕ) (p : Place) (cell : List ℕ) (number : ℕ) (bytes : List ℕ) (at : ℕ) : Type 0 where
  pub named : IsTrue (is_among p.numbers number)
  pub page : IsPage p (Bucket number) bytes at
  pub not_expected : (b : BucketOf K) → IsExpectedBucket p.shape bytes number (SoughtCell p.scales cell) b → ⊥

-- a bucket's page is not the one expected for a cell, or its directory's page is damaged
pub data IsDamagedForCell (K : ℕ) (p : Place) (cell : List ℕ) (number directory : ℕ) (before bytes : List ℕ) (at : ℕ) : Type 0 where
  NamesNothing : NamesNone p number directory before bytes at → IsDamagedForCell K p cell number directory before bytes at
  Unexpected : IsBadForCell K p cell number bytes at → IsDamagedForCell K p cell number directory before bytes at

-- a reading of a bucket for a cell is told as good or as damaged, or failed
abbrev pub IsCellBucketRead : (K : ℕ) → Place → List ℕ → ℕ → ℕ → ℕ → ℕ → List ℕ → List ℕ → Result (Head K) Refusal → Type 0
IsCellBucketRead K p cell rose now number directory before bytes (Ok head) = IsGoodForCell K p cell number bytes head
IsCellBucketRead K p cell rose now number directory before bytes (Err ReadFault) = Rose rose now
IsCellBucketRead K p cell rose now number directory before bytes (Err (Damaged at)) = IsDamagedForCell K p cell number directory before bytes at
IsCellBucketRead K p cell rose now number directory before bytes (Err _) = ⊥
