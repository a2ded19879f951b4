-- Corners that stand in the bytes of a page.
use Rattle.std.specs.Prelude.{◌≡◌, ◌<◌, ◌^◌, ◌+◌, ◌*◌, ℕ, List, length, drop, slice_index}
use Rattle.page_fields.specs.Fields.{number}

-- a corner stands at an offset where it has K numbers of 64 bits, and each is the number in its eight bytes from there on
pub record CornerAt (K : ℕ) (page : List ℕ) (at : ℕ) (corner : List ℕ) : Type 0 where
  pub count : length corner ≡ K
  pub in_range : (a : ℕ) → slice_index corner a < 2 ^ 64
  pub each : (a : ℕ) → a < K → slice_index corner a ≡ number 8 (drop (at + 8 * a) page)
