-- What it means that of a file only bytes of a root change.
use Rattle.std.specs.Prelude.{◌*◌, ℕ, List}
use Rattle.grid_types.specs.declared.shape.Shape.{Shape}
use Rattle.grid_types.specs.declared.sizes.TheConstants.{PAGE_BYTES}
use Rattle.grid_types.specs.Shapes.{header_page, header_gate_at, root_fields_at}
use Rattle.grid_types.specs.Ranges.{own_page, area_at, area_bytes, header_ranges, root_ranges}
use Rattle.disk_trait.specs.Disk.{Agrees}
use Rattle.disk_trait.specs.Moments.{AgreesOutside}

-- two images differ at most in the gate of a root's header page
abbrev pub GateAlone : ℕ → List ℕ → List ℕ → Type 0
GateAlone number = Agrees (header_gate_at (header_page number)) 1

-- two images differ at most in the root fields of a root's header page
abbrev pub FieldsAlone : ℕ → List ℕ → List ℕ → Type 0
FieldsAlone number = Agrees (root_fields_at (header_page number)) 56

-- two images differ at most in the gate and the root fields of a root's header page
abbrev pub HeaderAlone : ℕ → List ℕ → List ℕ → Type 0
HeaderAlone number = AgreesOutside (header_ranges number)

-- two images differ at most in page i of a root's table area
abbrev pub AreaPageAlone : Shape → ℕ → ℕ → List ℕ → List ℕ → Type 0
AreaPageAlone s number i = Agrees (own_page s number i * PAGE_BYTES) PAGE_BYTES

-- two images differ at most in a root's table area
abbrev pub AreaAlone : Shape → ℕ → List ℕ → List ℕ → Type 0
AreaAlone s number = Agrees (area_at s number) (area_bytes s)

-- two images differ at most in all that a root writes
abbrev pub RootAlone : Shape → ℕ → List ℕ → List ℕ → Type 0
RootAlone s number = AgreesOutside (root_ranges s number)
