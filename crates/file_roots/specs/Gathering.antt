-- What is gathered from the pages of a table area, one after the other.
use Rattle.std.specs.Prelude.{◌≡◌, ◌≤◌, ◌+◌, ◌*◌, ◌++◌, ℕ, Bool, false, cond, List, length, replicate, slice_index_or, IsTrue}
use Rattle.grid_model.specs.Lists.{is_among, AreDistinct}
use Rattle.grid_model.specs.Scales.{scale_of}
use Rattle.grid_model.specs.Lawful.{Area, pages_named}
use Rattle.grid_types.specs.declared.shape.Shape.{Shape}
use Rattle.grid_types.specs.declared.sizes.TheConstants.{PAGE_BYTES}
use Rattle.grid_types.specs.Pages.{page_of}
use Rattle.grid_types.specs.Shapes.{file_pages}
use Rattle.grid_model.specs.Spellings.{RootFields}
use Rattle.linear_scales.specs.Limited.{scales_of, limits_of}
use Rattle.file_roots.specs.declared.gathering.Gathered.{Gathered}
use Rattle.file_roots.specs.Damage.{SpellsUpTo, HasAreaUpTo}
use Rattle.grid_types.specs.Ranges.{own_page}

-- these data pages are marked, and no other; each is named once
pub record AreMarked (marks : List Bool) (named : List ℕ) : Type 0 where
  pub each : (p : ℕ) → slice_index_or marks p false ≡ is_among named p
  pub distinct : AreDistinct named

-- the data pages that entries name, where an entry may be nowhere or not
abbrev pub named_by : Bool → List ℕ → List ℕ
named_by may_be_nowhere entries = cond may_be_nowhere (pages_named entries) entries

-- a scale with boundaries behind its own
abbrev pub longer_scale : List (List ℕ) → ℕ → List ℕ → List ℕ
longer_scale scales a more = scale_of scales a ++ more

-- the area that was gathered
abbrev pub area_in : {K : ℕ} → Gathered K → Area
area_in g = record { scales = scales_of g.scales; parts = g.parts.items; table = g.table.items }

-- the data pages that an area names
abbrev pub pages_in : Area → List ℕ
pages_in a = a.parts ++ pages_named a.table

-- from the first n pages of a root's table area this was gathered: what they say, with the data pages marked that they name
pub record IsGathered {K : ℕ} (s : Shape) (image : List ℕ) (r : RootFields) (n : ℕ) (g : Gathered K) : Type 0 where
  pub spelled : SpellsUpTo s image r n (area_in g)
  pub marked : AreMarked g.marks.items (pages_in (area_in g))

-- a page is taken as page n of a root's table area, or refused: where those before it were gathered, they are with one that is taken, and with one that is refused they say nothing of any area
pub record TakesPage {K : ℕ} (s : Shape) (r : RootFields) (n : ℕ) (page : List ℕ) (old new : Gathered K) (taken : Bool) : Type 0 where
  pub gathered : (image : List ℕ) → page_of (own_page s r.number n) image ≡ page → IsGathered s image r n old → IsTrue taken → IsGathered s image r (n + 1) new
  pub refused : (image : List ℕ) → page_of (own_page s r.number n) image ≡ page → IsGathered s image r n old → taken ≡ false → (a : Area) → SpellsUpTo s image r (n + 1) a → ⊥

-- there is room for what is gathered: a scale for each attribute, each with the shape's limit, and a mark for each data page
pub record HasRoom {K : ℕ} (s : Shape) (g : Gathered K) : Type 0 where
  pub scales : length g.scales ≡ K
  pub limits : limits_of g.scales ≡ replicate K s.boundaries
  pub marks : length g.marks.items ≡ s.pages

-- the first n pages of a root's table area are spelled, and this was gathered from them
pub record HasGathered {K : ℕ} (s : Shape) (image : List ℕ) (r : RootFields) (n : ℕ) (g : Gathered K) : Type 0 where
  pub area : HasAreaUpTo s image r n (area_in g)
  pub marked : AreMarked g.marks.items (pages_in (area_in g))

-- this may have been gathered from the first n pages of a root's table area: some file of the shape has such pages
pub record MayBeGathered {K : ℕ} (s : Shape) (r : RootFields) (n : ℕ) (g : Gathered K) : Type 0 where
  pub image : List ℕ
  pub long : file_pages s * PAGE_BYTES ≤ length image
  pub gathered : HasGathered s image r n g
