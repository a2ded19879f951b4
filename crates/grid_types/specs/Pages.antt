-- The pages of an image.
use Rattle.std.specs.Prelude.{ℕ, ◌*◌, List, take, drop}
use Rattle.grid_types.specs.declared.sizes.TheConstants.{PAGE_BYTES}

-- a page is so many bytes of the image, the first from byte 0 on
abbrev pub page_of : ℕ → List ℕ → List ℕ
page_of page image = take PAGE_BYTES (drop (page * PAGE_BYTES) image)
