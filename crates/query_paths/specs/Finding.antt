-- The page of the bucket that has a key, as it was found.
use Rattle.std.specs.Prelude.{◌≡◌, ◌≤◌, ℕ, List, length, Some, IsTrue}
use Rattle.grid_types.specs.declared.shape.Shape.{Shape}
use Rattle.grid_types.specs.declared.sizes.TheConstants.{MOST_RECORDS}
use Rattle.grid_types.specs.Regions.{contains}
use Rattle.grid_model.specs.Lists.{is_among}
use Rattle.grid_model.specs.Cells.{cell_of}
use Rattle.grid_model.specs.Tables.{Table}
use Rattle.grid_model.specs.Layouts.{BucketBox, Layout, holder}
use Rattle.grid_model.specs.LayoutLaws.{StandsOver}
use Rattle.grid_model.specs.Buckets.{SpellsBucket}
use Rattle.grid_model.specs.Images.{bucket_on}
use Rattle.grid_model.specs.Expected.{SoughtKey}
use Rattle.bucket_page.specs.declared.head.Head.{Head}
use Rattle.bucket_page.specs.OnPage.{head_told, bucket_told}
use Rattle.query_paths.specs.Pinned.{Place}
use Rattle.query_paths.specs.Paths.{NamesBucket, HasBucket}

-- the bucket of a key was found: its number, which the directory names at the key's cell, is one of the place's, its page is the expected one, this is the page's head, and its region has the key
pub record IsBucketFound {K : ℕ} (p : Place) (key bytes : List ℕ) (head : Head K) : Type 0 where
  pub names : NamesBucket p (cell_of p.scales key) head.number
  pub among : IsTrue (is_among p.numbers head.number)
  pub has : HasBucket p head.number (SoughtKey key) bytes (bucket_told K bytes)
  pub head_is : head ≡ head_told K bytes
  pub inside : IsTrue (contains head.region key)
  pub count : length (bucket_told K bytes).rows ≡ head.count
  pub fits : head.count ≤ p.shape.capacity
  pub few : p.shape.capacity ≤ MOST_RECORDS

-- over a layout and a table, a page is that of the box that has a key, and this is its head
pub record IsBoxFound {K : ℕ} (shape : Shape) (L : Layout K) (t : Table) (key : List ℕ) (e : ℕ × BucketBox K) (bytes : List ℕ) (head : Head K) : Type 0 where
  pub stands : StandsOver shape L t
  pub holds : holder L key ≡ Some e
  pub spelled : SpellsBucket shape.capacity bytes (bucket_on t e)
  pub number : head.number ≡ e.0
  pub region : head.region ≡ e.1.region
  pub count : head.count ≡ length (bucket_on t e).rows
