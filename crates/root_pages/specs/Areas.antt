-- What a page of a table area says.
use Rattle.std.specs.Prelude.{◌≡◌, ◌<◌, ◌≤◌, ◌^◌, ℕ, List, length, slice_index}
use Rattle.std.specs.List.{flat_map}
use Rattle.grid_types.specs.declared.sizes.TheConstants.{NUMBERS_ON_PAGE, WORDS_ON_PAGE}
use Rattle.page_fields.specs.Fields.{bytes_of}
use Rattle.grid_model.specs.Spellings.{area_head, page, scale_spelling, list_spelling, bucket_table_spelling}

-- the page of a table area of this kind, with these entries of w bytes each
unfoldable pub entries_page : ℕ → List ℕ → ℕ → ℕ → List ℕ → List ℕ
entries_page w kind root index entries = page (area_head kind index (length entries) root) (flat_map (bytes_of w) entries)

-- a page spells these entries for a root at an index of its table area: it is the page that the spelling makes of them, there are no more than fit on it, and all numbers are in their ranges
pub record SpellsEntries (spelling : ℕ → ℕ → List ℕ → List ℕ) (most bits root index : ℕ) (page entries : List ℕ) : Type 0 where
  pub root_in_range : root < 2 ^ 64
  pub index_in_range : index < 2 ^ 32
  pub in_range : (i : ℕ) → slice_index entries i < 2 ^ bits
  pub few : length entries ≤ most
  pub bytes : page ≡ spelling root index entries

-- a page spells these boundaries of a scale, which are as many as fit on it at most, and have 64 bits
abbrev pub SpellsScale : ℕ → ℕ → List ℕ → List ℕ → Type 0
SpellsScale root index page boundaries = SpellsEntries scale_spelling NUMBERS_ON_PAGE 64 root index page boundaries

-- a page spells these data pages of directory parts, which are as many as fit on it at most, and have 32 bits
abbrev pub SpellsList : ℕ → ℕ → List ℕ → List ℕ → Type 0
SpellsList root index page pages = SpellsEntries list_spelling WORDS_ON_PAGE 32 root index page pages

-- a page spells these data pages of bucket numbers, which are as many as fit on it at most, and have 32 bits
abbrev pub SpellsTable : ℕ → ℕ → List ℕ → List ℕ → Type 0
SpellsTable root index page pages = SpellsEntries bucket_table_spelling WORDS_ON_PAGE 32 root index page pages

-- a page has so many entries: there are as many that it spells
pub record HasEntries (spells : List ℕ → List ℕ → Type 0) (count : ℕ) (page : List ℕ) : Type 0 where
  pub entries : List ℕ
  pub count_is : length entries ≡ count
  pub spelled : spells page entries

-- a page has so many boundaries of a scale, for a root at an index of its table area
abbrev pub IsScalePage : ℕ → ℕ → ℕ → List ℕ → Type 0
IsScalePage root index count page = HasEntries (SpellsScale root index) count page

-- a page has the data pages of so many directory parts, for a root at an index of its table area
abbrev pub IsListPage : ℕ → ℕ → ℕ → List ℕ → Type 0
IsListPage root index count page = HasEntries (SpellsList root index) count page

-- a page has the data pages of so many bucket numbers, for a root at an index of its table area
abbrev pub IsTablePage : ℕ → ℕ → ℕ → List ℕ → Type 0
IsTablePage root index count page = HasEntries (SpellsTable root index) count page
