-- Which page of a file is damaged as far as its roots go.
use Rattle.std.specs.Prelude.{◌≡◌, ◌≢◌, ◌⊎◌, ◌↔◌, ◌<◌, ◌≤◌, ◌+◌, ◌-◌, ◌*◌, ◌++◌, ℕ, List, length, min, slice_index, All, IsTrue}
use Rattle.grid_types.specs.declared.shape.Shape.{Shape}
use Rattle.grid_types.specs.declared.sizes.TheConstants.{NUMBERS_ON_PAGE, WORDS_ON_PAGE}
use Rattle.grid_types.specs.Pages.{page_of}
use Rattle.grid_types.specs.Shapes.{is_shape, area_pages, header_page}
use Rattle.grid_model.specs.Lists.{AreDistinct}
use Rattle.grid_model.specs.Scales.{is_scale, scale_of}
use Rattle.grid_model.specs.Spellings.{RootFields}
use Rattle.grid_model.specs.Lawful.{IsRootOn, Area, pages_named}
use Rattle.grid_model.specs.Images.{header_gate, IsOpenOver, IsNewest, HasArea, area_spelling}
use Rattle.file_roots.specs.Headers.{root_number_at}
use Rattle.grid_types.specs.Ranges.{own_page}

-- the first n pages of a root's table area say this of an area: as many of the root's boundaries, parts and numbers as stand on them; the boundaries of each scale ascend, and each data page is one and is named once
pub record SpellsUpTo (s : Shape) (image : List ℕ) (r : RootFields) (n : ℕ) (a : Area) : Type 0 where
  pub attributes : length a.scales ≡ length r.boundaries
  pub boundaries : (i : ℕ) → length (scale_of a.scales i) ≡ min (NUMBERS_ON_PAGE * (n - 2 * i)) (slice_index r.boundaries i)
  pub parts : length a.parts ≡ min (WORDS_ON_PAGE * (n - 8)) r.parts
  pub numbers : length a.table ≡ min (WORDS_ON_PAGE * (n - 9)) s.pages
  pub scales : (i : ℕ) → IsTrue (is_scale (scale_of a.scales i))
  pub named : All (λ p. p < s.pages) (a.parts ++ pages_named a.table)
  pub distinct : AreDistinct (a.parts ++ pages_named a.table)
  pub pages : (i : ℕ) → i < n → page_of (own_page s r.number i) image ≡ area_spelling r.number a i

-- the first n pages of a root's table area are spelled: they say so much of an area, and with all pages the buckets are the root's
pub record HasAreaUpTo (s : Shape) (image : List ℕ) (r : RootFields) (n : ℕ) (a : Area) : Type 0 where
  pub spelled : SpellsUpTo s image r n a
  pub buckets : area_pages s ≤ n → length (pages_named a.table) ≡ r.buckets

-- page i of a root's table area is the first that is not spelled: those before it are, and with it they are not
pub record IsBadAreaPage (s : Shape) (image : List ℕ) (r : RootFields) (i : ℕ) : Type 0 where
  pub inside : i < area_pages s
  pub before : Area
  pub spelled : HasAreaUpTo s image r i before
  pub no_more : (a : Area) → HasAreaUpTo s image r (i + 1) a → ⊥

-- no gate is open; the page that is named is header page 0
pub record IsNoneOpen (image : List ℕ) (page : ℕ) : Type 0 where
  pub zeroth : header_gate image 0 ≢ 1
  pub first : header_gate image 1 ≢ 1
  pub page_is : page ≡ 0

-- both gates are open, over one root number; the page that is named is header page 1
pub record AreAlike (image : List ℕ) (page : ℕ) : Type 0 where
  pub zeroth : header_gate image 0 ≡ 1
  pub first : header_gate image 1 ≡ 1
  pub numbers : root_number_at (page_of 0 image) ≡ root_number_at (page_of 1 image)
  pub page_is : page ≡ 1

-- a header page is open, and spells no lawful root
pub record IsMisspelt (s : Shape) (image : List ℕ) (header : ℕ) : Type 0 where
  pub gate : header_gate image header ≡ 1
  pub none : (r : RootFields) → IsOpenOver s image header r → ⊥

-- the page that is named is the first header page that is open and spells no lawful root; the gates are not open over one root number
pub record IsFirstMisspelt (s : Shape) (image : List ℕ) (page : ℕ) : Type 0 where
  pub two : page < 2
  pub misspelt : IsMisspelt s image page
  pub before : (header : ℕ) → header < page → IsMisspelt s image header → ⊥
  pub unlike : AreAlike image 1 → ⊥

-- the page that is named is the first of a root's table area that is not spelled
pub record HasBadAreaPage (s : Shape) (image : List ℕ) (r : RootFields) (page : ℕ) : Type 0 where
  pub index : ℕ
  pub bad : IsBadAreaPage s image r index
  pub page_is : page ≡ own_page s r.number index

-- the roots of a file are damaged, and this page is the one that is named: no gate is open; or both are, over one root number; or a header page spells no lawful root; or a page of the newest root's table area is not spelled
abbrev pub IsRootDamage : Shape → List ℕ → ℕ → Type 0
IsRootDamage s image page = IsNoneOpen image page ⊎ (AreAlike image page ⊎ (IsFirstMisspelt s image page ⊎ ((r : RootFields) × IsNewest s image r × HasBadAreaPage s image r page)))

-- all pages of a table area are spelled exactly where the area is
abbrev pub AreAllSpelled : Type 0
AreAllSpelled = (s : Shape) (image : List ℕ) (r : RootFields) (a : Area) → IsTrue (is_shape s) → IsRootOn s (header_page r.number) r → HasAreaUpTo s image r (area_pages s) a ↔ HasArea s image r a

-- one page is named where the roots of a file are damaged
abbrev pub OneIsDamaged : Type 0
OneIsDamaged = (s : Shape) (image : List ℕ) (p q : ℕ) → IsTrue (is_shape s) → IsRootDamage s image p → IsRootDamage s image q → p ≡ q
