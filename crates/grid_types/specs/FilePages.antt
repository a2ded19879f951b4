-- The pages of a file by what they are for, and their numbers.
use Rattle.std.specs.Prelude.{◌≡◌, ◌<◌, ℕ}
use Rattle.grid_types.specs.declared.shape.Shape.{Shape}
use Rattle.grid_types.specs.Shapes.{area_pages, table_page, gate_page, slot_page, data_page}

-- a page of a file: one of the two header pages, a page of one of the two table areas, the gate page or a slot of one of the two halves, or a data page
pub data FilePage : Type 0 where
  HeaderPage : (header : ℕ) → FilePage
  AreaPage : (area index : ℕ) → FilePage
  GatePage : (half : ℕ) → FilePage
  SlotPage : (half slot : ℕ) → FilePage
  DataPage : (index : ℕ) → FilePage

-- the number of a page, counted from the start of the file
abbrev pub page_number : Shape → FilePage → ℕ
page_number s (HeaderPage header) = header
page_number s (AreaPage area index) = table_page s area index
page_number s (GatePage half) = gate_page s half
page_number s (SlotPage half slot) = slot_page s half slot
page_number s (DataPage index) = data_page s index

-- a file of this shape has this page
abbrev pub HasPage : Shape → FilePage → Type 0
HasPage s (HeaderPage header) = header < 2
HasPage s (AreaPage area index) = (area < 2) × (index < area_pages s)
HasPage s (GatePage half) = half < 2
HasPage s (SlotPage half slot) = (half < 2) × (slot < s.slots)
HasPage s (DataPage index) = index < s.pages

-- pages that are for different things have different numbers
abbrev pub PagesAreApart : Type 0
PagesAreApart = (s : Shape) (p q : FilePage) → HasPage s p → HasPage s q → page_number s p ≡ page_number s q → p ≡ q
