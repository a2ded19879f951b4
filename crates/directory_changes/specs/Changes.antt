-- What a change does to the directory, and the directory parts that it renews.
use Rattle.std.specs.Prelude.{◌<◌, ◌≤◌, ◌+◌, ◌/◌, ◌==◌, ℕ, List, [], Bool, max, min, length, filter, slice_index, slice_set, if◌then◌else◌, ⊤}
use Rattle.std.specs.List.{list_any}
use Rattle.std.specs.Option.{unwrap_or}
use Rattle.grid_types.specs.declared.cell_box.CellBox.{CellBox}
use Rattle.grid_types.specs.declared.layout_change.Cut.{Cut}
use Rattle.grid_types.specs.declared.layout_change.LayoutChange.{LayoutChange}
use Rattle.grid_types.specs.declared.layout_change.LayoutChange.TheVariants as note
use Rattle.grid_types.specs.declared.region.Region.{Region}
use Rattle.grid_types.specs.declared.sizes.TheConstants.{WORDS_ON_PAGE, MOST_CELLS}
use Rattle.grid_types.specs.Shapes.{word_pages}
use Rattle.grid_types.specs.Lists.{zip_with}
use Rattle.grid_model.specs.Lists.{below, from_to, product, choices}
use Rattle.grid_model.specs.Scales.{scale_of, interval}
use Rattle.grid_model.specs.Cells.{cell_of, cell_index}
use Rattle.grid_model.specs.ScaleLaws.{IsCell}
use Rattle.grid_model.specs.Layouts.{BucketBox, Layout, box}
use Rattle.grid_model.specs.Notes.{right_of, scales_after}
use Rattle.directory_changes.specs.declared.change.DirectoryChange.{DirectoryChange}
use Rattle.directory_changes.specs.declared.change.DirectoryChange.TheVariants.{Nothing, Patch, Grow}

-- the box of the cells of a region: from the cell of its low corner to that of its high corner
abbrev pub cell_box : {K : ℕ} → List (List ℕ) → Region K → CellBox K
cell_box scales r = record { lo = cell_of scales r.lo; hi = cell_of scales r.hi }

-- what a cut does to the directory: it grows at a fresh boundary; at an existing one the cells of the right part get its bucket
abbrev pub change_by_cut : {K : ℕ} → List (List ℕ) → BucketBox K → Cut → ℕ → DirectoryChange K
change_by_cut scales b c right =
    if c.fresh then Grow c.attribute (interval (scale_of scales c.attribute) c.value) (cell_box (scales_after scales c) (right_of b c).region) right else Patch (cell_box scales (right_of b c).region) right

-- what a change of a box does to the directory: nothing, what a cut does, or the cells of the box that vanishes get the number of the other one
unfoldable pub directory_change : {K : ℕ} → Layout K → ℕ × BucketBox K → LayoutChange → DirectoryChange K
directory_change L e note.Plain = Nothing
directory_change L e (note.Cut c right) = change_by_cut L.scales e.1 c right
directory_change L e (note.Merge m) = Patch (cell_box L.scales (unwrap_or (box L (max e.0 m)) e.1).region) (min e.0 m)

-- how many intervals there are with one more in an attribute
abbrev pub grown : List ℕ → ℕ → List ℕ
grown ns a = slice_set ns a (slice_index ns a + 1)

-- how many intervals each attribute has after a change
abbrev pub dims_after : {K : ℕ} → List ℕ → DirectoryChange K → List ℕ
dims_after ns Nothing = ns
dims_after ns (Patch b x) = ns
dims_after ns (Grow a i b x) = grown ns a

-- how many parts the directory has after a change
abbrev pub parts_after : {K : ℕ} → List ℕ → DirectoryChange K → ℕ
parts_after ns change = word_pages (product (dims_after ns change))

-- whether a part holds a cell of a box
abbrev pub holds_cell : {K : ℕ} → List ℕ → CellBox K → ℕ → Bool
holds_cell ns b p = list_any (λ cell. cell_index ns cell / WORDS_ON_PAGE == p) (choices (zip_with from_to b.lo b.hi))

-- the parts of the directory that hold a cell of a box
abbrev pub parts_of_box : {K : ℕ} → List ℕ → CellBox K → List ℕ
parts_of_box ns b = filter (holds_cell ns b) (below (word_pages (product ns)))

-- the parts that a change renews: none, those that hold a cell of the box, or all of the refined directory
unfoldable pub parts_changed : {K : ℕ} → List ℕ → DirectoryChange K → List ℕ
parts_changed ns Nothing = []
parts_changed ns (Patch b x) = parts_of_box ns b
parts_changed ns (Grow a i b x) = below (word_pages (product (grown ns a)))

-- both corners of a box are cells of the directory; it may be empty all the same
pub record HasCorners {K : ℕ} (ns : List ℕ) (b : CellBox K) : Type 0 where
  pub low : IsCell ns b.lo
  pub high : IsCell ns b.hi

-- a directory may grow: the interval is one of the attribute, and the refined directory has at most a million cells and the corners of the box
pub record IsGrowth {K : ℕ} (ns : List ℕ) (a i : ℕ) (b : CellBox K) : Type 0 where
  pub attribute : a < length ns
  pub interval : i < slice_index ns a
  pub few : product (grown ns a) ≤ MOST_CELLS
  pub corners : HasCorners (grown ns a) b

-- a change is one of a directory with so many intervals
abbrev pub IsChangeOf : {K : ℕ} → List ℕ → DirectoryChange K → Type 0
IsChangeOf ns Nothing = ⊤
IsChangeOf ns (Patch b x) = HasCorners ns b
IsChangeOf ns (Grow a i b x) = IsGrowth ns a i b
