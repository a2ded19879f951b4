-- An image that reads as a table is undamaged.
use Rattle.std.proofs.Common.{◌≡◌, ◌<◌, ◌≤◌, ◌+◌, ◌*◌, ℕ, List, length, take, IsTrue, codes, refl, sym, ap, ◌∙◌, arith}
use Rattle.std.proofs.lemmas.List.{take-take}
use Rattle.grid_types.specs.declared.shape.Shape.{Shape}
use Rattle.grid_types.specs.declared.sizes.TheConstants.{PAGE_BYTES}
use Rattle.grid_types.specs.FilePages.{FilePage, HeaderPage, AreaPage, GatePage, SlotPage, DataPage, page_number, HasPage}
use Rattle.grid_types.specs.Pages.{page_of}
use Rattle.grid_types.specs.Shapes.{is_shape, file_pages}
use Rattle.grid_types.proofs.Places.{table-page-lies, gate-page-lies, slot-page-lies, data-page-lies}
use Rattle.page_fields.specs.Padded.{padded}
use Rattle.grid_model.specs.Spellings.{shape_bytes}
use Rattle.grid_model.specs.Images.{Found, IsFound}
use Rattle.journal_slots.proofs.GoodHalves.{found_good}
use Rattle.file_roots.proofs.Unique.{undamaged}
use Rattle.file_images.specs.Damages.{ReadsUndamaged}

-- each page of a file is inside of it
page-inside : (s : Shape) (p : FilePage) → IsTrue (is_shape s) → HasPage s p → page_number s p < file_pages s
page-inside s (HeaderPage header) lawful two = omega (arith, two, (gate-page-lies s 0 lawful (omega arith)).inside, (table-page-lies s 0 0 lawful (omega arith) (omega arith)).first, (table-page-lies s 0 0 lawful (omega arith) (omega arith)).inside)
page-inside s (AreaPage area i) lawful here = (table-page-lies s area i lawful here.0 here.1).inside
page-inside s (GatePage half) lawful two = (gate-page-lies s half lawful two).inside
page-inside s (SlotPage half slot) lawful here = (slot-page-lies s half slot lawful here.0 here.1).inside
page-inside s (DataPage i) lawful lt = (data-page-lies s i lt).inside

-- the bytes of a shape begin with the kind of the file
kind-first : (s : Shape) → take 8 (shape_bytes s) ≡ codes "GRIDFILE"
unfolding shape_bytes padded
kind-first s = refl

module _ {K : ℕ} (image : List ℕ) (f : Found K) (n : ℕ) (is : IsFound image f n) where
  -- the pages of the file are all there
  all-there : (p : FilePage) → HasPage f.shape p → (page_number f.shape p + 1) * PAGE_BYTES ≤ length image
  all-there p here = let inside = page-inside f.shape p is.shape.lawful here in let long = is.shape.long in omega (arith, inside, long)

  -- the bytes of the kind come first
  kind-there : take 8 (page_of 0 image) ≡ codes "GRIDFILE"
  kind-there = sym (take-take 8 64 (page_of 0 image) (omega arith)) ∙ ap (take 8) is.shape.first ∙ kind-first f.shape

-- an image that reads as a table is undamaged
pub reads-undamaged : {K : ℕ} → ReadsUndamaged K
reads-undamaged = record {
  kind = λ image n t r. kind-there image r.found n r.makes.is_found;
  shapes = λ image n t r. r.makes.is_found.shape.second ∙ sym r.makes.is_found.shape.first;
  whole = λ image n t r p here. all-there image r.found n r.makes.is_found p here;
  roots = λ image n t r page damage. let is = r.makes.is_found in undamaged r.found.shape image is.shape.lawful r.found.root is.root r.found.area is.area page damage;
  journal = λ image n t r half page two bad. found_good image r.found n r.makes.is_found half two page bad;
}
