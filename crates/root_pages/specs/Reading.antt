-- What stands in the bytes of header pages and of table areas, at each place.
use Rattle.std.specs.Prelude.{◌≡◌, ◌<◌, ◌+◌, ◌*◌, ℕ, List, length, take, drop, slice_index}
use Rattle.grid_types.specs.declared.shape.Shape.{Shape}
use Rattle.grid_types.specs.declared.sizes.TheConstants.{PAGE_BYTES, HEAD_BYTES}
use Rattle.page_fields.specs.Fields.{number, AreZeros}
use Rattle.grid_model.specs.Spellings.{RootFields}

-- the numbers of a shape stand at their places
pub record ShapeAt (page : List ℕ) (s : Shape) : Type 0 where
  pub k : s.k ≡ slice_index page 10
  pub capacity : s.capacity ≡ number 2 (drop 12 page)
  pub pages : s.pages ≡ number 4 (drop 16 page)
  pub slots : s.slots ≡ number 4 (drop 20 page)
  pub boundaries : s.boundaries ≡ number 4 (drop 24 page)
  pub cells : s.cells ≡ number 4 (drop 28 page)

-- the numbers of a root stand at their places from an offset on
pub record FieldsAt (at : ℕ) (page : List ℕ) (r : RootFields) : Type 0 where
  pub number_is : r.number ≡ number 8 (drop at page)
  pub session : r.session ≡ number 8 (drop (at + 8) page)
  pub front : r.front ≡ number 8 (drop (at + 16) page)
  pub records : r.records ≡ number 8 (drop (at + 24) page)
  pub boundaries : (a : ℕ) → a < length r.boundaries → slice_index r.boundaries a ≡ number 4 (drop (at + 32 + 4 * a) page)
  pub parts : r.parts ≡ number 4 (drop (at + 48) page)
  pub buckets : r.buckets ≡ number 4 (drop (at + 52) page)

-- the front of a page is the head of a page of a table area: each field stands at its offset, and zeros between and behind them
pub record IsAreaHead (kind : List ℕ) (root index count : ℕ) (page : List ℕ) : Type 0 where
  pub kind_is : take 4 page ≡ kind
  pub index_is : number 4 (drop 4 page) ≡ index
  pub count_is : number 4 (drop 8 page) ≡ count
  pub gap : AreZeros 12 16 page
  pub root_is : number 8 (drop 16 page) ≡ root
  pub rest : AreZeros 24 HEAD_BYTES page

-- a page has that head, and zeros from an end on
pub record IsPageUpTo (kind : List ℕ) (root index count end : ℕ) (page : List ℕ) : Type 0 where
  pub head : IsAreaHead kind root index count page
  pub zeros : AreZeros end PAGE_BYTES page

-- these are so many entries of w bytes, as they stand on a page of a table area
pub record AreOn (w count : ℕ) (page entries : List ℕ) : Type 0 where
  pub count_is : length entries ≡ count
  pub each : (i : ℕ) → i < length entries → slice_index entries i ≡ number w (drop (HEAD_BYTES + w * i) page)
