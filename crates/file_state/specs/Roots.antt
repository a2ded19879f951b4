-- The next root, and the room that it needs.
use Rattle.std.specs.Prelude.{◌≡◌, ◌≤◌, ◌+◌, ℕ, length, map, replicate}
use Rattle.grid_types.specs.declared.owner.Owner.TheVariants.{Bucket, Part}
use Rattle.grid_types.specs.declared.shape.Shape.{Shape}
use Rattle.grid_types.specs.Shapes.{word_pages}
use Rattle.grid_model.specs.Cells.{parts}
use Rattle.grid_model.specs.Lawful.{nowhere}
use Rattle.grid_model.specs.Spellings.{RootFields}
use Rattle.linear_scales.specs.declared.root.Root.{Root}
use Rattle.linear_scales.specs.Limited.{scales_of, limits_of}
use Rattle.page_states.specs.Current.{TellsPages}
use Rattle.file_books.specs.Books.{Books}

-- a root has room for each that a file of this shape can have: its scales may have as many boundaries, its table has as many numbers as there are data pages, and there is room for all directory parts
pub record HasRoom {K : ℕ} (shape : Shape) (root : Root K) : Type 0 where
  pub limits : limits_of root.scales ≡ replicate K shape.boundaries
  pub numbers : length root.table.items ≡ shape.pages
  pub parts : word_pages shape.cells ≤ root.parts.room

-- the fields of the next root of books
abbrev pub next_fields : Books → RootFields
next_fields b = record {
  number = b.number + 1;
  session = b.session;
  front = b.front;
  records = b.records;
  boundaries = map length b.scales;
  parts = parts b.scales;
  buckets = b.buckets;
}

-- a root tells the scales and the current pages of books: of each bucket number, and of each directory part
pub record TellsBooks {K : ℕ} (b : Books) (root : Root K) : Type 0 where
  pub scales : scales_of root.scales ≡ b.scales
  pub buckets : TellsPages Bucket nowhere b.pages root.table.items (length root.table.items)
  pub directory : TellsPages Part nowhere b.pages root.parts.items (length root.parts.items)
