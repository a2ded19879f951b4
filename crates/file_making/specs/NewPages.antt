-- What stands on each page of a new file.
use Rattle.std.specs.Prelude.{◌≡◌, ℕ, zero, suc, List, [], ◌∷◌, ◌++◌, replicate}
use Rattle.grid_types.specs.declared.shape.Shape.{Shape}
use Rattle.grid_types.specs.declared.sizes.TheConstants.{PAGE_BYTES}
use Rattle.grid_types.specs.FilePages.{FilePage, HeaderPage, AreaPage, GatePage, SlotPage, DataPage, page_number, HasPage}
use Rattle.grid_types.specs.Pages.{page_of}
use Rattle.page_fields.specs.Padded.{padded}
use Rattle.grid_model.specs.Spellings.{shape_bytes, root_bytes, bucket_spelling, gate_spelling}
use Rattle.grid_model.specs.Images.{area_spelling}
use Rattle.file_images.specs.NewFiles.{new_fields, new_area, new_directory, new_bucket}

-- a page of zeros
abbrev pub zero_page : List ℕ
zero_page = replicate PAGE_BYTES 0

-- the header page with the root of a new file: the shape, an open gate, and the root's fields
abbrev pub new_root_page : ℕ → Shape → List ℕ
new_root_page K s = padded PAGE_BYTES (shape_bytes s ++ (padded 8 (1 ∷ []) ++ root_bytes (new_fields K)))

-- what a page of a new file has: header page 0 the root, and header page 1 the shape alone; table area 0 that of the root, and area 1 zeros; a gate page gates that are 0; a slot zeros; data page 0 the directory, data page 1 the bucket, and any other zeros
abbrev pub new_page : ℕ → Shape → FilePage → List ℕ
new_page K s (HeaderPage zero) = new_root_page K s
new_page K s (HeaderPage (suc header)) = padded PAGE_BYTES (shape_bytes s)
new_page K s (AreaPage zero index) = area_spelling 0 (new_area K s) index
new_page K s (AreaPage (suc area) index) = zero_page
new_page K s (GatePage half) = gate_spelling half (replicate s.slots 0)
new_page K s (SlotPage half slot) = zero_page
new_page K s (DataPage zero) = new_directory
new_page K s (DataPage (suc zero)) = bucket_spelling (new_bucket K)
new_page K s (DataPage (suc (suc index))) = zero_page

-- an image has each page of a new file of K attributes, also those of zeros
pub record HasNewPages (K : ℕ) (s : Shape) (image : List ℕ) : Type 0 where
  pub each : (p : FilePage) → HasPage s p → page_of (page_number s p) image ≡ new_page K s p
