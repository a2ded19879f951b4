-- Which pages of a file say something: all but the data pages that its newest root does not name.
use Rattle.std.specs.Prelude.{◌≡◌, ◌++◌, ℕ, List, length, IsTrue, ⊤}
use Rattle.grid_types.specs.declared.shape.Shape.{Shape}
use Rattle.grid_types.specs.FilePages.{FilePage, HeaderPage, AreaPage, GatePage, SlotPage, DataPage, page_number, HasPage}
use Rattle.grid_types.specs.Pages.{page_of}
use Rattle.grid_model.specs.Lists.{is_among}
use Rattle.grid_model.specs.Tables.{Table}
use Rattle.grid_model.specs.Lawful.{Area, pages_named}
use Rattle.grid_model.specs.Layouts.{Layout}
use Rattle.grid_model.specs.Images.{Reads, Stands, IsShaped}

-- a page says something under a table area: it is no data page, or one that the area names
abbrev pub IsNamed : Area → FilePage → Type 0
IsNamed a (HeaderPage header) = ⊤
IsNamed a (AreaPage area index) = ⊤
IsNamed a (GatePage half) = ⊤
IsNamed a (SlotPage half slot) = ⊤
IsNamed a (DataPage index) = IsTrue (is_among (a.parts ++ pages_named a.table) index)

-- two images have one length, and the same pages but for data pages that a table area does not name
pub record DiffersInFreePages (s : Shape) (a : Area) (old new : List ℕ) : Type 0 where
  pub same_length : length new ≡ length old
  pub same : (p : FilePage) → HasPage s p → IsNamed a p → page_of (page_number s p) new ≡ page_of (page_number s p) old

-- free data pages say nothing: an image that differs from another in those alone reads as the same table, stands for it, and has the same layout
pub record FreePagesSayNothing (K : ℕ) : Type 0 where
  pub reads : (c d : List ℕ) (n : ℕ) (t : Table) (r : Reads K c n t) → DiffersInFreePages r.found.shape r.found.area c d → Reads K d n t
  pub stands : (c d : List ℕ) (n : ℕ) (t : Table) (s : Stands K c n t) → DiffersInFreePages s.reads.found.shape s.reads.found.area c d → Stands K d n t
  pub shaped : (c d : List ℕ) (L : Layout K) (h : IsShaped c L) → DiffersInFreePages h.reads.found.shape h.reads.found.area c d → IsShaped d L
