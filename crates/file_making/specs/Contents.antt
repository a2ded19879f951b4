-- The kinds of pages that a new file has, as the code names them.
use Rattle.std.specs.Prelude.{◌≡◌, ℕ, zero, suc, List, replicate}
use Rattle.grid_types.specs.declared.shape.Shape.{Shape}
use Rattle.grid_types.specs.declared.sizes.TheConstants.{PAGE_BYTES}
use Rattle.grid_types.specs.FilePages.{FilePage, page_number, HasPage}
use Rattle.grid_types.specs.Halves.{half_number}
use Rattle.page_fields.specs.Padded.{padded}
use Rattle.grid_model.specs.Spellings.{shape_bytes, bucket_spelling, gate_spelling}
use Rattle.grid_model.specs.Images.{area_spelling}
use Rattle.grid_model.specs.Lawful.{nowhere}
use Rattle.file_images.specs.NewFiles.{new_area, new_directory, new_bucket}
use Rattle.file_making.specs.declared.content.Content.{Content}
use Rattle.file_making.specs.declared.content.Content.TheVariants as is
use Rattle.file_making.specs.NewPages.{zero_page, new_root_page, new_page}

-- the bytes of a page of this kind
abbrev pub content_bytes : ℕ → Shape → Content → List ℕ
content_bytes K s is.Root = new_root_page K s
content_bytes K s is.Front = padded PAGE_BYTES (shape_bytes s)
content_bytes K s (is.Area index) = area_spelling 0 (new_area K s) index
content_bytes K s (is.Gates half) = gate_spelling (half_number half) (replicate s.slots 0)
content_bytes K s is.Directory = new_directory
content_bytes K s is.FirstBucket = bucket_spelling (new_bucket K)
content_bytes K s is.Zeros = zero_page

-- the page of this number, whichever it is, has these bytes in a new file
abbrev pub HasBytes : ℕ → Shape → ℕ → List ℕ → Type 0
HasBytes K s number bytes = (p : FilePage) → HasPage s p → page_number s p ≡ number → new_page K s p ≡ bytes

-- the first entry on the page of a new file's bucket table that begins with this number: bucket 0 is on data page 1, and there is no other bucket
abbrev pub first_entry : ℕ → ℕ
first_entry zero = 1
first_entry (suc number) = nowhere
