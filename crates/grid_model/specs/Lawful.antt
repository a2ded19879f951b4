-- Which fields of pages are lawful: their numbers are in their ranges, and say what a file may say.
use Rattle.std.specs.Prelude.{◌≡◌, ℕ, ◌+◌, ◌*◌, ◌%◌, ◌<◌, ◌≤◌, ◌^◌, List, ◌++◌, ◌==◌, not, map, filter, length, All, IsTrue, ⊤}
use Rattle.grid_types.specs.Shapes.{word_pages}
use Rattle.grid_types.specs.declared.sizes.TheConstants.{MOST_UPDATES}
use Rattle.grid_types.specs.declared.shape.Shape.{Shape}
use Rattle.grid_types.specs.declared.update.Update.{Update}
use Rattle.grid_types.specs.declared.update.Update.TheVariants.{Put, Remove}
use Rattle.grid_types.specs.declared.layout_change.LayoutChange.{LayoutChange}
use Rattle.grid_types.specs.declared.layout_change.LayoutChange.TheVariants as note
use Rattle.grid_types.specs.declared.layout_change.LoggedUpdate.{LoggedUpdate}
use Rattle.grid_types.specs.Keys.{IsKey}
use Rattle.grid_model.specs.Lists.{product, AreDistinct}
use Rattle.grid_model.specs.Tables.{IsData}
use Rattle.grid_model.specs.Scales.{is_scale}
use Rattle.grid_model.specs.Notes.{updated_key}
use Rattle.grid_model.specs.Spellings.{RootFields, LoggedBatch, update_data}

-- the number that stands where no bucket has a number
unfoldable pub nowhere : ℕ
nowhere = 4294967295

-- the cells that scales with so many boundaries make
abbrev pub cells_of_counts : List ℕ → ℕ
cells_of_counts counts = product (map (λ n. n + 1) counts)

-- root fields are lawful on a header page of a file of this shape: the root's number has the page's parity, the numbers are within their limits, the parts are those of the cells, and there are no more records than the buckets hold
pub record IsRootOn (shape : Shape) (header : ℕ) (r : RootFields) : Type 0 where
  pub parity : r.number % 2 ≡ header
  pub number : r.number ≤ 2 ^ 63
  pub session : r.session ≤ 2 ^ 63
  pub front : r.front < 2 ^ 63
  pub attributes : length r.boundaries ≡ shape.k
  pub few_boundaries : All (λ n. n ≤ shape.boundaries) r.boundaries
  pub few_cells : cells_of_counts r.boundaries ≤ shape.cells
  pub parts : r.parts ≡ word_pages (cells_of_counts r.boundaries)
  pub some_buckets : 1 ≤ r.buckets
  pub few_buckets : r.buckets < shape.pages
  pub records : r.records ≤ r.buckets * shape.capacity

-- what a table area says: the scales, the data page of each directory part, and the data page of each bucket number, or nowhere
pub record Area : Type 0 where
  pub scales : List (List ℕ)
  pub parts : List ℕ
  pub table : List ℕ

-- the data pages that a table names
abbrev pub pages_named : List ℕ → List ℕ
pages_named table = filter (λ p. not (p == nowhere)) table

-- a table area is lawful for a root: the numbers of boundaries, parts and buckets are the root's, scales ascend, and each data page is one, and named once
pub record IsAreaOf (shape : Shape) (r : RootFields) (a : Area) : Type 0 where
  pub boundaries : map length a.scales ≡ r.boundaries
  pub scales : All (λ scale. IsTrue (is_scale scale)) a.scales
  pub parts : length a.parts ≡ r.parts
  pub numbers : length a.table ≡ shape.pages
  pub buckets : length (pages_named a.table) ≡ r.buckets
  pub pages : All (λ p. p < shape.pages) (a.parts ++ pages_named a.table)
  pub distinct : AreDistinct (a.parts ++ pages_named a.table)

-- an update has a key of K numbers, and lawful data
pub record IsUpdateOf (K : ℕ) (u : Update K) : Type 0 where
  pub key : IsKey K (updated_key u)
  pub value : IsData (update_data u)

-- a note stands with an update where it has a spelling: cuts with puts, merges with removes, of numbers in their ranges
abbrev pub StandsWith : {K : ℕ} → Update K → LayoutChange → Type 0
StandsWith u note.Plain = ⊤
StandsWith {K} (Put r) (note.Cut c right) = (c.attribute < K) × (c.value < 2 ^ 64) × (right < 2 ^ 32)
StandsWith (Remove k) (note.Cut c right) = ⊥
StandsWith (Put r) (note.Merge m) = ⊥
StandsWith (Remove k) (note.Merge m) = m < 2 ^ 32

-- an update with its note has a spelling
pub record IsLoggedUpdate {K : ℕ} (u : LoggedUpdate K) : Type 0 where
  pub update : IsUpdateOf K u.update
  pub note : StandsWith u.update u.note

-- a batch has a spelling: it has 1 to 16 updates, each with a spelling, a session of 64 bits, and a first place from 1 to 2 ^ 63 - 16, so that each place is below 2 ^ 63
pub record IsBatch {K : ℕ} (b : LoggedBatch K) : Type 0 where
  pub some : 1 ≤ length b.updates
  pub few : length b.updates ≤ MOST_UPDATES
  pub session : b.session < 2 ^ 64
  pub first : 1 ≤ b.first
  pub last : b.first ≤ 9223372036854775792
  pub updates : All IsLoggedUpdate b.updates
