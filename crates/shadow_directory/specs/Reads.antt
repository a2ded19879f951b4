-- How many old parts of the directory are read for a change.
use Rattle.std.specs.Prelude.{◌+◌, ◌/◌, ◌==◌, ◌&&◌, ◌∷◌, [], ℕ, Bool, false, List, map, flat_map, filter, length, Option, Some, None, if◌then◌else◌}
use Rattle.std.specs.List.{list_any}
use Rattle.grid_types.specs.declared.sizes.TheConstants.{WORDS_ON_PAGE}
use Rattle.grid_types.specs.Shapes.{word_pages}
use Rattle.grid_model.specs.Lists.{below, choices, product}
use Rattle.grid_model.specs.Cells.{cell_index, image_of}
use Rattle.directory_changes.specs.Changes.{grown, parts_of_box}
use Rattle.directory_changes.specs.declared.change.DirectoryChange.{DirectoryChange}
use Rattle.directory_changes.specs.declared.change.DirectoryChange.TheVariants.{Nothing, Patch, Grow}

-- whether some cell of a part of the refined directory had its image on this old part
abbrev pub comes_from : List ℕ → ℕ → ℕ → ℕ → ℕ → Bool
comes_from ns a i part old = list_any (λ cell. (cell_index (grown ns a) cell / WORDS_ON_PAGE == part) && (cell_index ns (image_of cell a i) / WORDS_ON_PAGE == old)) (choices (map below (grown ns a)))

-- the old parts from which the cells of a part of the refined directory come, ascending
unfoldable pub sources : List ℕ → ℕ → ℕ → ℕ → List ℕ
sources ns a i part = filter (comes_from ns a i part) (below (word_pages (product ns)))

-- a buffer holds this part
abbrev pub is_held : Option ℕ → ℕ → Bool
is_held None part = false
is_held (Some held) part = held == part

-- how many of these parts are read, one after the other, by a buffer that keeps the last one: each that it does not hold already
abbrev pub readings : Option ℕ → List ℕ → ℕ
readings held [] = 0
readings held (part ∷ parts) = (if is_held held part then 0 else 1) + readings (Some part) parts

-- the part that it holds behind them
abbrev pub last_held : Option ℕ → List ℕ → Option ℕ
last_held held [] = held
last_held held (part ∷ parts) = last_held (Some part) parts

-- how many pages a change reads: a patch one for each part that it renews; a growth, for each new part, the old parts from which its cells come, ascending, each but where it is the one that was read last
unfoldable pub page_reads : {K : ℕ} → List ℕ → DirectoryChange K → ℕ
page_reads ns Nothing = 0
page_reads ns (Patch b x) = length (parts_of_box ns b)
page_reads ns (Grow a i b x) = readings None (flat_map (sources ns a i) (below (word_pages (product (grown ns a)))))

-- how many it reads for one part, where the buffer holds this one
abbrev pub part_reads : {K : ℕ} → List ℕ → DirectoryChange K → Option ℕ → ℕ → ℕ
part_reads ns Nothing held part = 0
part_reads ns (Patch b x) held part = 1
part_reads ns (Grow a i b x) held part = readings held (sources ns a i part)

-- what the buffer holds behind that part: a patch leaves no old page in it
abbrev pub held_after : {K : ℕ} → List ℕ → DirectoryChange K → Option ℕ → ℕ → Option ℕ
held_after ns Nothing held part = held
held_after ns (Patch b x) held part = None
held_after ns (Grow a i b x) held part = last_held held (sources ns a i part)
