-- What the page of a number has.
use Rattle.std.proofs.Common.{◌≡◌, ◌≢◌, ◌≤◌, ◌+◌, ℕ, zero, suc, refl, sym, ap, ◌∙◌, arith}
use Rattle.grid_types.specs.declared.shape.Shape.{Shape}
use Rattle.grid_types.specs.Shapes.{area_pages, gate_page, data_page}
use Rattle.grid_types.specs.FilePages.{FilePage, HeaderPage, AreaPage, GatePage, SlotPage, DataPage, page_number, HasPage}
use Rattle.grid_types.proofs.Places.{table-page}
use Rattle.grid_types.proofs.PageNumbers.{are-apart}
use Rattle.file_making.specs.NewPages.{zero_page, new_page}
use Rattle.file_making.specs.Contents.{HasBytes}

module _ (K : ℕ) (s : Shape) (number : ℕ) where
  -- the page of a number has what a page has that has the number
  pub bytes_of_page : (q : FilePage) → HasPage s q → page_number s q ≡ number → HasBytes K s number (new_page K s q)
  bytes_of_page q there at p has same = ap (new_page K s) (are-apart s p q has there (same ∙ sym at))

  -- any page behind the first table area but the gate pages and the first two data pages has zeros
  pub zeros_else : 2 + area_pages s ≤ number → number ≢ gate_page s 0 → number ≢ gate_page s 1 → number ≢ data_page s 0 → number ≢ data_page s 1 → HasBytes K s number zero_page
  zeros_else behind first second directory bucket (HeaderPage header) has same = absurd (omega (arith, has, same, behind))
  zeros_else behind first second directory bucket (AreaPage zero index) has same = absurd (omega (arith, (table-page s index).0, has.1, same, behind))
  zeros_else behind first second directory bucket (AreaPage (suc area) index) has same = refl
  zeros_else behind first second directory bucket (GatePage zero) has same = absurd (first (sym same))
  zeros_else behind first second directory bucket (GatePage (suc zero)) has same = absurd (second (sym same))
  zeros_else behind first second directory bucket (GatePage (suc (suc half))) has same = absurd (omega (arith, has))
  zeros_else behind first second directory bucket (SlotPage half slot) has same = refl
  zeros_else behind first second directory bucket (DataPage zero) has same = absurd (directory (sym same))
  zeros_else behind first second directory bucket (DataPage (suc zero)) has same = absurd (bucket (sym same))
  zeros_else behind first second directory bucket (DataPage (suc (suc index))) has same = refl
