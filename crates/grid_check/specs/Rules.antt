-- When a file that a survey found whole is sound: rules over its directory pages, its bucket pages and its root, each over the lists that the root names.
use Rattle.std.specs.Prelude.{◌≡◌, ◌≢◌, ◌<◌, ◌/◌, ◌%◌, ◌↔◌, ℕ, List, length, map, sum, slice_index, Option, Some, None}
use Rattle.grid_types.specs.declared.shape.Shape.{Shape}
use Rattle.grid_types.specs.declared.sizes.TheConstants.{WORDS_ON_PAGE}
use Rattle.grid_types.specs.declared.region.Region.{Region}
use Rattle.grid_types.specs.Shapes.{data_page}
use Rattle.grid_model.specs.Lawful.{nowhere}
use Rattle.grid_model.specs.Spellings.{BucketOf}
use Rattle.grid_model.specs.Buckets.{SpellsBucket}
use Rattle.grid_model.specs.Cells.{dims, cell_index, InCellBox}
use Rattle.grid_model.specs.ScaleLaws.{IsCell}
use Rattle.grid_model.specs.Layouts.{IsDrawn}
use Rattle.grid_model.specs.Images.{entry_page, HasBuckets}
use Rattle.directory_pages.specs.CellBoxes.{cells_on}
use Rattle.directory_pages.specs.Spelling.{IsDirectoryPage, bucket_in}
use Rattle.directory_changes.specs.Changes.{cell_box}

-- each directory part below this one keeps a rule
abbrev pub PartsKeep : (ℕ → Type 0) → ℕ → Type 0
PartsKeep rule part = (p : ℕ) → p < part → rule p

-- of the directory parts that are listed this is the page of the first that breaks a rule
pub record IsFirstPart (s : Shape) (listed : List ℕ) (rule : ℕ → Type 0) (page : ℕ) : Type 0 where
  pub part : ℕ
  pub inside : part < length listed
  pub page_is : page ≡ data_page s (slice_index listed part)
  pub bad : rule part → ⊥
  pub before : PartsKeep rule part

-- a rule of directory parts is kept by all that are listed, or broken first at this page
abbrev pub JudgesListed : Shape → List ℕ → (ℕ → Type 0) → Option ℕ → Type 0
JudgesListed s listed rule None = PartsKeep rule (length listed)
JudgesListed s listed rule (Some page) = IsFirstPart s listed rule page

-- each number below this one that a bucket has keeps a rule
abbrev pub NumbersKeep : List ℕ → (ℕ → Type 0) → ℕ → Type 0
NumbersKeep table rule n = (m : ℕ) → m < n → slice_index table m ≢ nowhere → rule m

-- of the numbers that buckets have this is the page of the first that breaks a rule
pub record IsFirstNumber (s : Shape) (table : List ℕ) (rule : ℕ → Type 0) (page : ℕ) : Type 0 where
  pub number : ℕ
  pub inside : number < length table
  pub named : slice_index table number ≢ nowhere
  pub page_is : page ≡ data_page s (slice_index table number)
  pub bad : rule number → ⊥
  pub before : NumbersKeep table rule number

-- a rule of buckets is kept at each number that a bucket has, or broken first at this page
abbrev pub JudgesNumbers : Shape → List ℕ → (ℕ → Type 0) → Option ℕ → Type 0
JudgesNumbers s table rule None = NumbersKeep table rule (length table)
JudgesNumbers s table rule (Some page) = IsFirstNumber s table rule page

-- the first rule, of parts: under so many intervals the page of a directory part is spelled for it, with as many cells as it has
abbrev pub HasPart : Shape → List ℕ → List ℕ → List ℕ → ℕ → Type 0
HasPart s image ns listed p = IsDirectoryPage p (cells_on ns p) (entry_page s image listed p)

-- a bucket has a number: it is one of the table's, and names a data page there
pub record IsNumbered (table : List ℕ) (n : ℕ) : Type 0 where
  pub inside : n < length table
  pub somewhere : slice_index table n ≢ nowhere

-- each of the first cells of a directory page names a number that a bucket has
pub record NameBuckets (table page : List ℕ) (count : ℕ) : Type 0 where
  pub each : (i : ℕ) → i < count → IsNumbered table (bucket_in i page)

-- the second rule, of cells: each cell on the page of a directory part names a number that a bucket has
abbrev pub HasCells : Shape → List ℕ → List ℕ → List ℕ → List ℕ → ℕ → Type 0
HasCells s image ns listed table p = NameBuckets table (entry_page s image listed p) (cells_on ns p)

-- a page spells a bucket of this number
pub record SpellsNumber (K capacity : ℕ) (page : List ℕ) (n : ℕ) : Type 0 where
  pub bucket : BucketOf K
  pub spelled : SpellsBucket capacity page bucket
  pub number_is : bucket.number ≡ n

-- the third rule, of buckets: the page of a bucket's number spells a bucket of that number
abbrev pub HasBucket : ℕ → Shape → List ℕ → List ℕ → ℕ → Type 0
HasBucket K s image table n = SpellsNumber K s.capacity (entry_page s image table n) n

-- the fourth rule, of faces: each bound of the region of a bucket that the page of a number spells is an end of an interval
abbrev pub HasFaces : ℕ → Shape → List ℕ → List (List ℕ) → List ℕ → ℕ → Type 0
HasFaces K s image scales table n = (b : BucketOf K) → SpellsBucket s.capacity (entry_page s image table n) b → IsDrawn scales b.box

-- the number that a cell of the directory names, by the cell's index: a thousand cells stand on the page of each part
abbrev pub number_named : Shape → List ℕ → List ℕ → ℕ → ℕ
number_named s image listed at = bucket_in (at % WORDS_ON_PAGE) (entry_page s image listed (at / WORDS_ON_PAGE))

-- a number is named by the cells of a region, and by no other cell
abbrev pub IsNamedBy : {K : ℕ} → List (List ℕ) → (ℕ → ℕ) → Region K → ℕ → Type 0
IsNamedBy scales named region n = (cell : List ℕ) → IsCell (dims scales) cell → (named (cell_index (dims scales) cell) ≡ n) ↔ InCellBox (cell_box scales region) cell

-- the fifth rule, of covers: the cells that name a number are exactly those of the region of a bucket that the page of the number spells
abbrev pub HasCover : ℕ → Shape → List ℕ → List (List ℕ) → List ℕ → List ℕ → ℕ → Type 0
HasCover K s image scales listed table n = (b : BucketOf K) → SpellsBucket s.capacity (entry_page s image table n) b → IsNamedBy scales (number_named s image listed) b.box.region n

-- the sixth rule, of records: the buckets that the pages of the table spell have so many records
abbrev pub HasRecords : ℕ → Shape → List ℕ → List ℕ → ℕ → Type 0
HasRecords K s image table count = (buckets : List (BucketOf K)) → HasBuckets s image table buckets → sum (map (λ b. length b.rows) buckets) ≡ count

-- the rule of parts is kept, or broken first at this page
abbrev pub JudgesParts : Shape → List ℕ → List ℕ → List ℕ → Option ℕ → Type 0
JudgesParts s image ns listed = JudgesListed s listed (HasPart s image ns listed)

-- the rule of cells is kept, or broken first at this page
abbrev pub JudgesCells : Shape → List ℕ → List ℕ → List ℕ → List ℕ → Option ℕ → Type 0
JudgesCells s image ns listed table = JudgesListed s listed (HasCells s image ns listed table)

-- the rule of buckets is kept, or broken first at this page
abbrev pub JudgesBuckets : ℕ → Shape → List ℕ → List ℕ → Option ℕ → Type 0
JudgesBuckets K s image table = JudgesNumbers s table (HasBucket K s image table)

-- the rule of faces is kept, or broken first at this page
abbrev pub JudgesFaces : ℕ → Shape → List ℕ → List (List ℕ) → List ℕ → Option ℕ → Type 0
JudgesFaces K s image scales table = JudgesNumbers s table (HasFaces K s image scales table)

-- the rule of covers is kept, or broken first at this page
abbrev pub JudgesCovers : ℕ → Shape → List ℕ → List (List ℕ) → List ℕ → List ℕ → Option ℕ → Type 0
JudgesCovers K s image scales listed table = JudgesNumbers s table (HasCover K s image scales listed table)
