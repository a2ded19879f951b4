-- What the definitions of the spellings promise.
use Rattle.std.specs.Prelude.{◌≡◌, ◌≤◌, ℕ, List}
use Rattle.grid_types.specs.declared.shape.Shape.{Shape}
use Rattle.grid_model.specs.Spellings.{RootFields, root_bytes}
use Rattle.root_pages.specs.Headers.{SpellsShape, AreInRange}
use Rattle.root_pages.specs.Areas.{SpellsEntries}

-- no header page spells two shapes
abbrev pub SpellsOneShape : Type 0
SpellsOneShape = (page : List ℕ) (s t : Shape) → SpellsShape page s → SpellsShape page t → s ≡ t

-- no bytes are those of two roots whose numbers are in range
abbrev pub SpellsOneRoot : Type 0
SpellsOneRoot = (K : ℕ) (r q : RootFields) → K ≤ 4 → AreInRange K r → AreInRange K q → root_bytes r ≡ root_bytes q → r ≡ q

-- one root, one index and one list of entries
pub record IsOneList (root other index place : ℕ) (entries more : List ℕ) : Type 0 where
  pub root_is : root ≡ other
  pub index_is : index ≡ place
  pub entries_are : entries ≡ more

-- no page spells two lists of entries, or one list for two roots or at two indices
abbrev pub SpellsOneList : (ℕ → ℕ → List ℕ → List ℕ) → ℕ → ℕ → Type 0
SpellsOneList spelling most bits = (root other index place : ℕ) (page entries more : List ℕ) → SpellsEntries spelling most bits root index page entries → SpellsEntries spelling most bits other place page more → IsOneList root other index place entries more
