-- The bytes of a file in which a page, a root, a batch or a gate stands; a range is its first byte and its length.
use Rattle.std.specs.Prelude.{◌*◌, ℕ, List, [], ◌∷◌}
use Rattle.grid_types.specs.declared.shape.Shape.{Shape}
use Rattle.grid_types.specs.declared.sizes.TheConstants.{PAGE_BYTES}
use Rattle.grid_types.specs.Shapes.{area_pages, header_page, table_page, header_gate_at, root_fields_at, slot_page, slot_gate_at}

-- the bytes of a page
abbrev pub page_range : ℕ → ℕ × ℕ
page_range page = (page * PAGE_BYTES, PAGE_BYTES)

-- page i of the table area of a root of this number
abbrev pub own_page : Shape → ℕ → ℕ → ℕ
own_page s number i = table_page s (header_page number) i

-- the byte at which the table area of a root begins
abbrev pub area_at : Shape → ℕ → ℕ
area_at s number = own_page s number 0 * PAGE_BYTES

-- how many bytes a table area has
abbrev pub area_bytes : Shape → ℕ
area_bytes s = area_pages s * PAGE_BYTES

-- the bytes of a header page that a root writes: its fields and its gate
abbrev pub header_ranges : ℕ → List (ℕ × ℕ)
header_ranges number = (root_fields_at (header_page number), 56) ∷ (header_gate_at (header_page number), 1) ∷ []

-- the bytes that a root writes in all
abbrev pub root_ranges : Shape → ℕ → List (ℕ × ℕ)
root_ranges s number = (area_at s number, area_bytes s) ∷ header_ranges number

-- the bytes that a batch writes: its slot's page and the slot's gate
abbrev pub slot_ranges : Shape → ℕ → ℕ → List (ℕ × ℕ)
slot_ranges s half slot = page_range (slot_page s half slot) ∷ (slot_gate_at s half slot, 1) ∷ []
