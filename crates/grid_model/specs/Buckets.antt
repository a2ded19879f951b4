-- When a bucket is lawful, and which page spells it.
use Rattle.std.specs.Prelude.{◌≡◌, ℕ, ◌<◌, ◌≤◌, ◌^◌, List, length, All, IsTrue}
use Rattle.grid_types.specs.Keys.{IsKey}
use Rattle.grid_types.specs.Regions.{contains, IsRegion}
use Rattle.grid_model.specs.Tables.{IsTable, IsData, pairs_of}
use Rattle.grid_model.specs.Spellings.{BucketOf, bucket_spelling}

-- a bucket is lawful: its numbers are in their ranges, its region is not empty, and its records are at most its capacity, ascend and lie in the region
pub record IsBucket {K : ℕ} (capacity : ℕ) (b : BucketOf K) : Type 0 where
  pub number : b.number < 2 ^ 32
  pub turn : b.box.turn < K
  pub region : IsRegion K b.box.region
  pub count : length b.rows ≤ capacity
  pub ascending : IsTable (pairs_of b.rows)
  pub keys : All (λ r. IsKey K r.key.numbers) b.rows
  pub inside : All (λ r. IsTrue (contains b.box.region r.key.numbers)) b.rows
  pub values : All (λ r. IsData r.value) b.rows

-- a page spells a bucket: the bucket is lawful, and the page is its one spelling
pub record SpellsBucket {K : ℕ} (capacity : ℕ) (page : List ℕ) (b : BucketOf K) : Type 0 where
  pub lawful : IsBucket capacity b
  pub bytes : page ≡ bucket_spelling b
