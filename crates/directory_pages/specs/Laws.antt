-- What the definition of the spelling promises.
use Rattle.std.specs.Prelude.{◌≡◌, ℕ, List}
use Rattle.directory_pages.specs.Spelling.{SpellsPart}

-- a page that spells two lists of cells spells one list of one part
pub record IsOnePart (part other : ℕ) (cells more : List ℕ) : Type 0 where
  pub part_is : part ≡ other
  pub cells_are : cells ≡ more

-- no page spells two lists of cells, or the cells of two parts
abbrev pub SpellsOnePart : Type 0
SpellsOnePart = (part other : ℕ) (page cells more : List ℕ) → SpellsPart part page cells → SpellsPart other page more → IsOnePart part other cells more
