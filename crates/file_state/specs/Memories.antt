-- What memory keeps of a file, as the books that it is.
use Rattle.std.specs.Prelude.{◌≡◌, ◌<◌, ℕ, List, replicate, IsTrue}
use Rattle.grid_types.specs.Halves.{half_number}
use Rattle.grid_types.specs.declared.owner.Owner.TheVariants.{Bucket}
use Rattle.linear_scales.specs.Limited.{scales_of, limits_of}
use Rattle.file_books.specs.Books.{Books, AreBooksOf, has_page}
use Rattle.file_books.specs.Effects.{Publishing}
use Rattle.file_state.specs.declared.memory.Memory.{Memory}
use Rattle.file_state.specs.declared.change.Change.{Change}

-- the books of what memory keeps
abbrev pub books_of : {K : ℕ} → Memory K → Books
books_of m = record {
  shape = m.geometry.shape;
  session = m.counts.session;
  front = m.counts.front;
  records = m.counts.records;
  buckets = m.counts.buckets;
  number = m.roots.number;
  rooted_at = m.roots.place;
  trying_at = m.roots.trying;
  half = half_number m.journal.half;
  first_used = m.journal.first_used;
  second_used = m.journal.second_used;
  scales = scales_of m.scales;
  pages = m.pages;
}

-- each bucket number below this one has a page
abbrev pub AreUsedBelow : Books → ℕ → Type 0
AreUsedBelow b from = (n : ℕ) → n < from → IsTrue (has_page b (Bucket n))

-- what memory keeps is books of a file with K attributes, each scale may have as many boundaries as the shape says, and the lower bucket numbers are those that have pages
pub record IsMemory {K : ℕ} (m : Memory K) : Type 0 where
  pub books : AreBooksOf K (books_of m)
  pub limits : limits_of m.scales ≡ replicate K m.geometry.shape.boundaries
  pub used : AreUsedBelow (books_of m) m.unused_from

-- a change and its new pages, as what is published
abbrev pub publishing_of : {K : ℕ} → Change K → List ℕ → Publishing K
publishing_of x pages = record { bucket = x.bucket; note = x.note; directory = x.directory; pages = pages; change = x.records }
