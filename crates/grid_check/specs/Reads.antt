-- What was read of a file's directory pages and bucket pages, as it stands in memory.
use Rattle.std.specs.Prelude.{◌≡◌, ◌≢◌, ◌<◌, ◌+◌, ◌-◌, ◌*◌, ◌⊎◌, ℕ, List, length, min, slice_index, get_or}
use Rattle.grid_types.specs.declared.refusal.Refusal.{Refusal}
use Rattle.grid_types.specs.declared.refusal.Refusal.TheVariants.{NoMemory, ReadFault}
use Rattle.grid_types.specs.declared.shape.Shape.{Shape}
use Rattle.grid_types.specs.declared.sizes.TheConstants.{WORDS_ON_PAGE}
use Rattle.grid_model.specs.Lawful.{nowhere}
use Rattle.grid_model.specs.Buckets.{SpellsBucket}
use Rattle.grid_model.specs.Images.{entry_page}
use Rattle.bucket_page.specs.OnPage.{bucket_told}
use Rattle.directory_pages.specs.Spelling.{bucket_in}
use Rattle.grid_check.specs.Rules.{number_named, IsNumbered}
use Rattle.grid_check.specs.declared.holding.Holding.{Holding}

-- the first of these numbers are those that the cells name, by the cells' indices
abbrev pub AreNamed : Shape → List ℕ → List ℕ → List ℕ → ℕ → Type 0
AreNamed s image listed names n = (at : ℕ) → at < n → slice_index names at ≡ number_named s image listed at

-- the numbers of a part's cells are taken from its page, and those before them stay
pub record TakesPart (page : List ℕ) (part : ℕ) (old new : List ℕ) : Type 0 where
  pub count : length new ≡ length old
  pub before : (at : ℕ) → at < WORDS_ON_PAGE * part → slice_index new at ≡ slice_index old at
  pub taken : (i : ℕ) → i < min WORDS_ON_PAGE (length old - WORDS_ON_PAGE * part) → slice_index new (WORDS_ON_PAGE * part + i) ≡ bucket_in i page

-- each of these numbers that belongs to a cell of a part is one that a bucket has
abbrev pub AreNumbered : List ℕ → List ℕ → ℕ → Type 0
AreNumbered table names part = (i : ℕ) → i < min WORDS_ON_PAGE (length names - WORDS_ON_PAGE * part) → IsNumbered table (slice_index names (WORDS_ON_PAGE * part + i))

-- what is held of a bucket is what a page spells as the bucket of a number: the region, and how many records
pub record HoldsPage {K : ℕ} (capacity : ℕ) (page : List ℕ) (n : ℕ) (holding : Holding K) : Type 0 where
  pub spelled : SpellsBucket capacity page (bucket_told K page)
  pub number_is : (bucket_told K page).number ≡ n
  pub region_is : holding.region ≡ (bucket_told K page).box.region
  pub count_is : holding.count ≡ length (bucket_told K page).rows

-- what is held of a bucket is what the page of its number spells
abbrev pub HoldsBucket : {K : ℕ} → Shape → List ℕ → List ℕ → ℕ → Holding K → Type 0
HoldsBucket s image table n holding = HoldsPage s.capacity (entry_page s image table n) n holding

-- for each number below this one that a bucket has, the bucket's page is held
abbrev pub AreHeld : {K : ℕ} → Shape → List ℕ → List ℕ → List (Holding K) → ℕ → Type 0
AreHeld {K} s image table holdings n = (m : ℕ) → m < n → slice_index table m ≢ nowhere → (d : Holding K) → HoldsBucket s image table m (get_or holdings m d)

-- a read failed, or memory was wanting
abbrev pub MayRefusePages : Refusal → Type 0
MayRefusePages e = (e ≡ ReadFault) ⊎ (e ≡ NoMemory)
