-- The least bucket number that is unused.
use Rattle.std.specs.Prelude.{◌≡◌, ◌<◌, ℕ, false, IsTrue}
use Rattle.grid_types.specs.declared.owner.Owner.TheVariants.{Bucket}
use Rattle.file_books.specs.Books.{Books, has_page}

-- a bucket number has no page at the front, each lower one has one, and there are more data pages
pub record IsLeastUnused (b : Books) (n : ℕ) : Type 0 where
  pub unused : has_page b (Bucket n) ≡ false
  pub lower : (m : ℕ) → m < n → IsTrue (has_page b (Bucket m))
  pub within : n < b.shape.pages
