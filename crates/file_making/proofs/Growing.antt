-- Pages that are written in their order.
use Rattle.std.proofs.Common.{◌≡◌, ◌<◌, ◌⊎◌, inl, inr, ◌+◌, ◌*◌, ℕ, List, IsTrue, sym, ap, ◌∙◌, arith}
use Rattle.grid_types.specs.declared.shape.Shape.{Shape}
use Rattle.grid_types.specs.declared.sizes.TheConstants.{PAGE_BYTES}
use Rattle.grid_types.specs.Pages.{page_of}
use Rattle.grid_types.specs.Shapes.{is_shape, file_pages}
use Rattle.grid_types.specs.FilePages.{FilePage, HeaderPage, AreaPage, GatePage, SlotPage, DataPage, page_number, HasPage}
use Rattle.grid_types.proofs.Places.{within-limits, table-page-lies, gate-page-lies, slot-page-lies, data-page-lies, data-page-is, area-small}
use Rattle.disk_trait.specs.Disk.{Agrees}
use Rattle.disk_trait.proofs.Pages.{agrees_wider, page_apart}
use Rattle.file_making.specs.NewPages.{new_page, HasNewPages}
use Rattle.file_making.specs.Contents.{HasBytes}
use Rattle.file_making.specs.Making.{FileAlone}

-- each page below this number is as in a new file
abbrev pub PagesBelow : ℕ → Shape → ℕ → List ℕ → Type 0
PagesBelow K s number image = (p : FilePage) → HasPage s p → page_number s p < number → page_of (page_number s p) image ≡ new_page K s p

below_or_at : (p number : ℕ) → p < number + 1 → (p < number) ⊎ (p ≡ number)
below_or_at p number lt = grind arith

-- one page more
pub one_more : (K : ℕ) (s : Shape) (number : ℕ) (old new bytes : List ℕ) → PagesBelow K s number old → Agrees (number * PAGE_BYTES) PAGE_BYTES old new → page_of number new ≡ bytes → HasBytes K s number bytes → PagesBelow K s (number + 1) new
one_more K s number old new bytes below agrees written is p has lt = elim (below_or_at (page_number s p) number lt) [
  | inl low ↦ page_apart (number * PAGE_BYTES) PAGE_BYTES (page_number s p) old new (inl (omega (arith, low))) agrees ∙ below p has low
  | inr at ↦ ap (λ (q : ℕ). page_of q new) at ∙ written ∙ sym (is p has at)
]

module _ (s : Shape) (lawful : IsTrue (is_shape s)) where
  -- the number of a page is below that of all pages
  inside : (p : FilePage) → HasPage s p → page_number s p < file_pages s
  inside (HeaderPage header) has = let w = within-limits s lawful in omega (arith, has, w.some_pages, (data-page-lies s 0 (omega (arith, w.some_pages))).inside, data-page-is s 0)
  inside (AreaPage area index) has = (table-page-lies s area index lawful has.0 has.1).inside
  inside (GatePage half) has = (gate-page-lies s half lawful has).inside
  inside (SlotPage half slot) has = (slot-page-lies s half slot lawful has.0 has.1).inside
  inside (DataPage index) has = (data-page-lies s index has).inside

  -- where all are written, the image has each
  pub all_written : (K : ℕ) (image : List ℕ) → PagesBelow K s (file_pages s) image → HasNewPages K s image
  all_written K image below = record { each = λ p has. below p has (inside p has) }

-- how many pages a file has is a small number
pub file_pages_small : (s : Shape) → IsTrue (is_shape s) → file_pages s < 80000
unfolding file_pages
file_pages_small s lawful = let w = within-limits s lawful in omega (arith, w.few_pages, w.few_slots, area-small s lawful)

-- a page of the file is a part of it
pub page_in_file : (s : Shape) (number : ℕ) (old new : List ℕ) → number < file_pages s → Agrees (number * PAGE_BYTES) PAGE_BYTES old new → FileAlone s old new
page_in_file s number old new lt agrees = agrees_wider (number * PAGE_BYTES) PAGE_BYTES 0 (file_pages s * PAGE_BYTES) old new (omega arith) (omega (arith, lt)) agrees
