-- A layout: the scales, and the boxes of the buckets by number.
use Rattle.std.specs.Prelude.{◌≡◌, ℕ, ◌+◌, ◌*◌, ◌<◌, ◌≤◌, List, [], ◌∷◌, map, take, drop, length, slice_index, replicate, Option, Some, is_none, unwrap_or, IsTrue, T, IsSome}
use Rattle.std.specs.Option.{option_map_or}
use Rattle.std.specs.List as lists
use Rattle.std.specs.Ordering.{nat_cmp}
use Rattle.std.specs.FinMap.Entries.{find, where_key, is_sorted}
use Rattle.grid_types.specs.declared.sizes.TheConstants.{WORDS_ON_PAGE}
use Rattle.grid_types.specs.declared.region.Region.{Region}
use Rattle.grid_types.specs.declared.shape.Shape.{Shape}
use Rattle.grid_types.specs.Keys.{key_cmp, IsKey, top}
use Rattle.grid_types.specs.Regions.{contains, IsRegion}
use Rattle.grid_model.specs.Lists.{below}
use Rattle.grid_model.specs.Tables.{Table}
use Rattle.grid_model.specs.Scales.{scale_of, is_scale, is_drawn}
use Rattle.grid_model.specs.Cells.{cells, all_cells, corner}

-- a bucket's box: the region of its keys, and its turn, the attribute that is tried first when it is cut at a new boundary
pub record BucketBox (K : ℕ) : Type 0 where
  pub region : Region K
  pub turn : ℕ

-- a scale for each attribute, and a finite map from bucket numbers to boxes: the list of its entries, numbers ascending
pub record Layout (K : ℕ) : Type 0 where
  pub scales : List (List ℕ)
  pub boxes : List (ℕ × BucketBox K)

-- the records of a region
abbrev pub records_inside : {K : ℕ} → Table → Region K → Table
records_inside t r = where_key key_cmp (contains r) t

-- the box that has a number
abbrev pub box : {K : ℕ} → Layout K → ℕ → Option (BucketBox K)
box L n = find nat_cmp n L.boxes

-- the box that has a key, with its number
unfoldable pub holder : {K : ℕ} → Layout K → List ℕ → Option (ℕ × BucketBox K)
holder L k = lists.find (λ e. contains e.1.region k) L.boxes

-- the least number that no box has
unfoldable pub unused : {K : ℕ} → Layout K → ℕ
unused L = unwrap_or (lists.find (λ n. is_none (box L n)) (below (length L.boxes + 1))) 0

-- the region of every key
abbrev pub whole : (K : ℕ) → Region K
whole K = record { lo = replicate K 0; hi = replicate K top }

-- the layout of a new file: no boundaries, and one box with the whole region
unfoldable pub new_layout : (K : ℕ) → Layout K
new_layout K = record { scales = replicate K []; boxes = (0, record { region = whole K; turn = 0 }) ∷ [] }

-- each box has P
abbrev pub EachBox : {K : ℕ} → Layout K → (ℕ → BucketBox K → Type 0) → Type 0
EachBox {K} L P = (n : ℕ) (b : BucketBox K) → box L n ≡ Some b → P n b

-- no key is in two boxes
abbrev pub Apart : {K : ℕ} → Layout K → Type 0
Apart {K} L = (k : List ℕ) (n m : ℕ) (b c : BucketBox K) → box L n ≡ Some b → box L m ≡ Some c → IsTrue (contains b.region k) → IsTrue (contains c.region k) → n ≡ m

-- each bound of a box is an end of an interval
abbrev pub IsDrawn : {K : ℕ} → List (List ℕ) → BucketBox K → Type 0
IsDrawn {K} scales b = (a : ℕ) → a < K → IsTrue (is_drawn (scale_of scales a) (slice_index b.region.lo a) (slice_index b.region.hi a))

-- a layout is sound for a table: its scales ascend and keep the limits, each key lies in exactly one box, each bound is an end of an interval, each box has room for its records, and the numbers are below the number of pages
pub record IsSound {K : ℕ} (shape : Shape) (L : Layout K) (t : Table) : Type 0 where
  pub attributes : length L.scales ≡ K
  pub scales : (a : ℕ) → a < K → IsTrue (is_scale (scale_of L.scales a))
  pub few_boundaries : (a : ℕ) → a < K → length (scale_of L.scales a) ≤ shape.boundaries
  pub few_cells : cells L.scales ≤ shape.cells
  pub numbered : T (is_sorted nat_cmp L.boxes)
  pub regions : EachBox L (λ n b. IsRegion K b.region)
  pub turns : EachBox L (λ n b. b.turn < K)
  pub drawn : EachBox L (λ n b. IsDrawn L.scales b)
  pub covers : (k : List ℕ) → IsKey K k → IsSome (holder L k)
  pub apart : Apart L
  pub room : EachBox L (λ n b. length (records_inside t b.region) ≤ shape.capacity)
  pub below_pages : EachBox L (λ n b. n < shape.pages)

-- the number of the box that has a key, or 0 where none has it
abbrev pub number_at : {K : ℕ} → Layout K → List ℕ → ℕ
number_at L k = option_map_or (λ e. e.0) (holder L k) 0

-- the directory: for each cell, in the order of the indices, the number of the box that has its lowest key
unfoldable pub directory : {K : ℕ} → Layout K → List ℕ
directory L = map (λ cell. number_at L (corner L.scales cell)) (all_cells L.scales)

-- a part of the directory: a thousand cells, the last part what is left
unfoldable pub directory_part : {K : ℕ} → Layout K → ℕ → List ℕ
directory_part L p = take WORDS_ON_PAGE (drop (WORDS_ON_PAGE * p) (directory L))
