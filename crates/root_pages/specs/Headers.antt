-- What a header page says.
use Rattle.std.specs.Prelude.{◌≡◌, ◌<◌, ◌^◌, ℕ, List, length, take, drop, slice_index, IsTrue}
use Rattle.grid_types.specs.declared.shape.Shape.{Shape}
use Rattle.grid_types.specs.Shapes.{is_shape}
use Rattle.grid_model.specs.Spellings.{shape_bytes, RootFields, root_bytes}
use Rattle.grid_model.specs.Lawful.{IsRootOn}

-- a header page spells a shape: it begins with its bytes, and the shape is lawful
pub record SpellsShape (page : List ℕ) (s : Shape) : Type 0 where
  pub lawful : IsTrue (is_shape s)
  pub bytes : take 64 page ≡ shape_bytes s

-- a header page of a file of this shape spells a root: it has the bytes of the root's fields, and they are lawful on it
pub record SpellsRoot (s : Shape) (header : ℕ) (page : List ℕ) (r : RootFields) : Type 0 where
  pub lawful : IsRootOn s header r
  pub bytes : take 56 (drop 72 page) ≡ root_bytes r

-- a header page of a file of this shape spells no root
abbrev pub SpellsNoRoot : Shape → ℕ → List ℕ → Type 0
SpellsNoRoot s header page = (r : RootFields) → SpellsRoot s header page r → ⊥

-- root fields of K attributes are in range: each number fits into its bytes
pub record AreInRange (K : ℕ) (r : RootFields) : Type 0 where
  pub number : r.number < 2 ^ 64
  pub session : r.session < 2 ^ 64
  pub front : r.front < 2 ^ 64
  pub records : r.records < 2 ^ 64
  pub attributes : length r.boundaries ≡ K
  pub boundaries : (a : ℕ) → slice_index r.boundaries a < 2 ^ 32
  pub parts : r.parts < 2 ^ 32
  pub buckets : r.buckets < 2 ^ 32
