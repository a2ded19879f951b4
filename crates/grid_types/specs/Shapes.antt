-- The shape of a file, and where its pages stand.
use Rattle.std.specs.Prelude.{ℕ, ◌≤◌, ◌+◌, ◌-◌, ◌*◌, ◌/◌, ◌%◌, Bool, ◌&&◌, nat_le}
use Rattle.grid_types.specs.declared.shape.Shape.{Shape}
use Rattle.grid_types.specs.declared.sizes.TheConstants.{PAGE_BYTES, HEAD_BYTES, WORDS_ON_PAGE, MOST_ATTRIBUTES, LEAST_RECORDS, MOST_RECORDS, FEWEST_PAGES, MOST_PAGES, MOST_SLOTS, MOST_BOUNDARIES, MOST_CELLS}

-- a number lies between two others, both included
abbrev pub is_from_to : ℕ → ℕ → ℕ → Bool
is_from_to lo hi n = nat_le lo n && nat_le n hi

-- there are 1 to 4 attributes, and a bucket holds 2 to 48 records
abbrev pub has_lawful_buckets : Shape → Bool
has_lawful_buckets s = is_from_to 1 MOST_ATTRIBUTES s.k && is_from_to LEAST_RECORDS MOST_RECORDS s.capacity

-- there are 8 to 65,536 data pages, and each half of the journal has 1 to 4,000 slots
abbrev pub has_lawful_pages : Shape → Bool
has_lawful_pages s = is_from_to FEWEST_PAGES MOST_PAGES s.pages && is_from_to 1 MOST_SLOTS s.slots

-- a scale has at most 1 to 1,000 boundaries, and the directory at most 1 to 1,000,000 cells
abbrev pub has_lawful_bounds : Shape → Bool
has_lawful_bounds s = is_from_to 1 MOST_BOUNDARIES s.boundaries && is_from_to 1 MOST_CELLS s.cells

-- a shape is lawful where each number is within its limits
unfoldable pub is_shape : Shape → Bool
is_shape s = has_lawful_buckets s && (has_lawful_pages s && has_lawful_bounds s)

-- how many pages so many numbers of four bytes fill
abbrev pub word_pages : ℕ → ℕ
word_pages n = (n + (WORDS_ON_PAGE - 1)) / WORDS_ON_PAGE

-- the pages of a table area: two for each of four scales, one for the directory's list, and one for each thousand bucket numbers
abbrev pub area_pages : Shape → ℕ
area_pages s = 9 + word_pages s.pages

-- a file has two header pages, two table areas, two halves of a gate page and slots, and the data pages
unfoldable pub file_pages : Shape → ℕ
file_pages s = 4 + 2 * area_pages s + 2 * s.slots + s.pages

-- the header page of a root: roots take turns
abbrev pub header_page : ℕ → ℕ
header_page root = root % 2

-- page i of a table area
unfoldable pub table_page : Shape → ℕ → ℕ → ℕ
table_page s area i = 2 + area * area_pages s + i

-- the gate page of a half of the journal
unfoldable pub gate_page : Shape → ℕ → ℕ
gate_page s half = 2 + 2 * area_pages s + half * (s.slots + 1)

-- slot i of a half
unfoldable pub slot_page : Shape → ℕ → ℕ → ℕ
slot_page s half i = gate_page s half + 1 + i

-- data page i
unfoldable pub data_page : Shape → ℕ → ℕ
data_page s i = 4 + 2 * area_pages s + 2 * s.slots + i

-- the byte of a header page's gate, counted from the start of the file
abbrev pub header_gate_at : ℕ → ℕ
header_gate_at header = header * PAGE_BYTES + 64

-- the first byte of the root fields on a header page, counted from the start of the file
abbrev pub root_fields_at : ℕ → ℕ
root_fields_at header = header * PAGE_BYTES + 72

-- the byte of the gate of slot i of a half, counted from the start of the file
unfoldable pub slot_gate_at : Shape → ℕ → ℕ → ℕ
slot_gate_at s half i = gate_page s half * PAGE_BYTES + HEAD_BYTES + i

-- the numbers of a lawful shape are within their limits
pub record IsWithinLimits (s : Shape) : Type 0 where
  pub some_attributes : 1 ≤ s.k
  pub few_attributes : s.k ≤ MOST_ATTRIBUTES
  pub some_capacity : LEAST_RECORDS ≤ s.capacity
  pub small_capacity : s.capacity ≤ MOST_RECORDS
  pub some_pages : FEWEST_PAGES ≤ s.pages
  pub few_pages : s.pages ≤ MOST_PAGES
  pub some_slots : 1 ≤ s.slots
  pub few_slots : s.slots ≤ MOST_SLOTS
  pub some_boundaries : 1 ≤ s.boundaries
  pub few_boundaries : s.boundaries ≤ MOST_BOUNDARIES
  pub some_cells : 1 ≤ s.cells
  pub few_cells : s.cells ≤ MOST_CELLS
