-- What a header page says: its gate, the number of a root, and its root, if it is open.
use Rattle.std.specs.Prelude.{◌≡◌, ◌≢◌, ℕ, List, drop, slice_index, Option, Some, None}
use Rattle.grid_types.specs.declared.shape.Shape.{Shape}
use Rattle.grid_types.specs.Pages.{page_of}
use Rattle.page_fields.specs.Fields.{number}
use Rattle.root_pages.specs.declared.root_header.RootHeader.{RootHeader}
use Rattle.root_pages.specs.Fields.{model_fields}
use Rattle.root_pages.specs.Headers.{SpellsRoot, SpellsNoRoot}

-- the gate of a header page; it is open where it is 1
abbrev pub gate_of : List ℕ → ℕ
gate_of page = slice_index page 64

-- the number that stands where a header page has a root's
abbrev pub root_number_at : List ℕ → ℕ
root_number_at page = number 8 (drop 72 page)

-- a header page is closed where nothing is said, and open over the root that is said
abbrev pub Says : Shape → ℕ → List ℕ → Option RootHeader → Type 0
Says s header page None = gate_of page ≢ 1
Says s header page (Some f) = (gate_of page ≡ 1) × SpellsRoot s header page (model_fields f)

-- a header page is open, and spells no root
pub record SaysNothing (s : Shape) (header : ℕ) (page : List ℕ) : Type 0 where
  pub gate : gate_of page ≡ 1
  pub none : SpellsNoRoot s header page

-- both header pages are open, over one root number
pub record AreAlikeOn (zeroth first : List ℕ) : Type 0 where
  pub zeroth_open : gate_of zeroth ≡ 1
  pub first_open : gate_of first ≡ 1
  pub numbers : root_number_at zeroth ≡ root_number_at first

-- these are the two header pages of an image
pub record AreHeaderPages (image zeroth first : List ℕ) : Type 0 where
  pub zeroth_is : page_of 0 image ≡ zeroth
  pub first_is : page_of 1 image ≡ first
