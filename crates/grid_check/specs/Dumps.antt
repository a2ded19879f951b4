-- The table of a file: the records of its buckets, put together and changed by the updates behind its root.
use Rattle.std.specs.Prelude.{◌≡◌, ◌+◌, ◌⊎◌, ℕ, List, [], map, flat_map, fold, length, Some, None}
use Rattle.grid_types.specs.declared.refusal.Refusal.{Refusal}
use Rattle.grid_types.specs.declared.refusal.Refusal.TheVariants as refusal
use Rattle.grid_types.specs.declared.shape.Shape.{Shape}
use Rattle.grid_types.specs.declared.update.Record.{Record}
use Rattle.grid_model.specs.Lawful.{pages_named}
use Rattle.grid_model.specs.Lone.{record_of}
use Rattle.grid_model.specs.Spellings.{BucketOf}
use Rattle.grid_model.specs.Buckets.{SpellsBucket}
use Rattle.grid_model.specs.Tables.{Table, with_data}
use Rattle.grid_model.specs.Images.{entry_page, HasBuckets, Found, IsFound, logged_effect, updates_taken}
use Rattle.bucket_page.specs.OnPage.{bucket_told}
use Rattle.recovery.specs.Faults.{IsFirstFault}
use Rattle.recovery.specs.Surveys.{survey_pages}
use Rattle.grid_check.specs.Rules.{JudgesBuckets}
use Rattle.grid_check.specs.declared.dump.Dump.{Dump}

-- a table with records put in, one after the other
abbrev pub put_all : {K : ℕ} → Table → List (Record K) → Table
put_all t rows = fold (λ u r. with_data u r.key.numbers r.value) t rows

-- the records that the bucket page of a number tells
abbrev pub rows_told : (K : ℕ) → Shape → List ℕ → List ℕ → ℕ → List (Record K)
rows_told K s image table n = (bucket_told K (entry_page s image table n)).rows

-- the page of a number spells the bucket that it tells, and the bucket's records are put into a table
pub record PutsBucket (K : ℕ) (s : Shape) (image table : List ℕ) (n : ℕ) (old new : Table) : Type 0 where
  pub spelled : SpellsBucket s.capacity (entry_page s image table n) (bucket_told K (entry_page s image table n))
  pub number_is : (bucket_told K (entry_page s image table n)).number ≡ n
  pub put : new ≡ put_all old (rows_told K s image table n)

-- the records of the buckets that the pages of a table area spell are put into a table
abbrev pub PutsBuckets : (K : ℕ) → Shape → List ℕ → List ℕ → Table → Table → Type 0
PutsBuckets K s image table old new = (buckets : List (BucketOf K)) → HasBuckets s image table buckets → new ≡ put_all old (flat_map (λ b. b.rows) buckets)

-- a dump has the records of the buckets that the root's pages spell, put together and changed by the updates that are taken, in the order of their keys
abbrev pub DumpsFound : {K : ℕ} → List ℕ → Found K → Dump K → Type 0
DumpsFound {K} image f dump = (buckets : List (BucketOf K)) → HasBuckets f.shape image f.area.table buckets → dump.rows ≡ map record_of (fold logged_effect (put_all [] (flat_map (λ b. b.rows) buckets)) (updates_taken f))

-- a dump is that of an image: something is found in it up to the dump's place, each bucket page of its root is spelled, and the dump has their records
pub record IsDumped (K : ℕ) (image : List ℕ) (dump : Dump K) : Type 0 where
  pub found : Found K
  pub is_found : IsFound image found dump.front
  pub spelled : JudgesBuckets K found.shape image found.area.table None
  pub rows : DumpsFound image found dump

-- a dump has a table, at a place
pub record IsDumpOf {K : ℕ} (place : ℕ) (t : Table) (dump : Dump K) : Type 0 where
  pub front : dump.front ≡ place
  pub rows : dump.rows ≡ map record_of t

-- what a survey looks for is found in an image, and of the buckets of its root this is the page of the first that is not spelled for its number
pub record HasBadBucket (K : ℕ) (image : List ℕ) (page : ℕ) : Type 0 where
  pub found : Found K
  pub place : ℕ
  pub is_found : IsFound image found place
  pub first : JudgesBuckets K found.shape image found.area.table (Some page)

-- an image is refused for a bucket page
abbrev pub IsBucketFault : ℕ → List ℕ → Refusal → Type 0
IsBucketFault K image (refusal.Damaged page) = HasBadBucket K image page
IsBucketFault K image other = ⊥

-- an image is refused for the first fault that a survey finds, or for a bucket page
abbrev pub IsDumpFault : ℕ → List ℕ → Refusal → Type 0
IsDumpFault K image e = IsFirstFault K image e ⊎ IsBucketFault K image e

-- how many pages a dump reads at most: those of a survey, and the bucket pages
abbrev pub dump_pages : {K : ℕ} → Found K → ℕ
dump_pages f = survey_pages f.shape + length (pages_named f.area.table)
