-- What a root says, as the fields of a header page and as a table area.
use Rattle.std.specs.Prelude.{ℕ, length, map}
use Rattle.grid_types.specs.declared.shape.Shape.{Shape}
use Rattle.grid_model.specs.Spellings.{RootFields}
use Rattle.grid_model.specs.Lawful.{Area, IsAreaOf, pages_named}
use Rattle.grid_model.specs.Roots.{WholeRoot, AreRootFields}
use Rattle.linear_scales.specs.Limited.{scales_of}
use Rattle.linear_scales.specs.declared.root.Root.{Root}

-- the fields of a root on its header page
abbrev pub root_fields_of : {K : ℕ} → Root K → RootFields
root_fields_of root = record {
  number = root.number;
  session = root.session;
  front = root.front;
  records = root.records;
  boundaries = map length (scales_of root.scales);
  parts = length root.parts.items;
  buckets = length (pages_named root.table.items);
}

-- what the table area of a root says
abbrev pub area_of : {K : ℕ} → Root K → Area
area_of root = record { scales = scales_of root.scales; parts = root.parts.items; table = root.table.items }

-- the whole of a root
abbrev pub whole_of : {K : ℕ} → Root K → WholeRoot
whole_of root = record { fields = root_fields_of root; area = area_of root }

-- a root has a spelling in a file of this shape: its fields are lawful, and its table area is lawful for them
pub record IsRoot {K : ℕ} (shape : Shape) (root : Root K) : Type 0 where
  pub fields : AreRootFields shape (root_fields_of root)
  pub area : IsAreaOf shape (root_fields_of root) (area_of root)
