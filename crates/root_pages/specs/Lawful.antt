-- Parts of what makes the fields of a root lawful.
use Rattle.std.specs.Prelude.{◌≡◌, ◌<◌, ◌≤◌, ◌^◌, ◌*◌, ◌%◌, ℕ, List, slice_index}
use Rattle.grid_types.specs.declared.shape.Shape.{Shape}
use Rattle.grid_types.specs.Shapes.{word_pages}
use Rattle.grid_model.specs.Spellings.{RootFields}
use Rattle.grid_model.specs.Lawful.{cells_of_counts}

-- each number is at most a limit
abbrev pub AreAtMost : ℕ → List ℕ → Type 0
AreAtMost limit ns = (a : ℕ) → slice_index ns a ≤ limit

-- the root's number has the parity of its header page, and number, session and front are within their limits
pub record HasNumbers (header : ℕ) (r : RootFields) : Type 0 where
  pub parity : r.number % 2 ≡ header
  pub number : r.number ≤ 2 ^ 63
  pub session : r.session ≤ 2 ^ 63
  pub front : r.front < 2 ^ 63

-- the cells are within their limit, the parts are those of the cells, and buckets and records are within their limits
pub record HasCounts (shape : Shape) (r : RootFields) : Type 0 where
  pub few_cells : cells_of_counts r.boundaries ≤ shape.cells
  pub parts : r.parts ≡ word_pages (cells_of_counts r.boundaries)
  pub some_buckets : 1 ≤ r.buckets
  pub few_buckets : r.buckets < shape.pages
  pub records : r.records ≤ r.buckets * shape.capacity
