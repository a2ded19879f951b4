-- The cells of regions against the numbers that cells name.
use Rattle.std.specs.Prelude.{◌≡◌, ◌<◌, ◌==◌, ◌||◌, ℕ, List, [], map, length, min, get_or, slice_index, nat_le, if◌then◌else◌, Option, Some, None}
use Rattle.grid_types.specs.declared.region.Region.{Region}
use Rattle.grid_model.specs.Lawful.{nowhere}
use Rattle.grid_model.specs.Cells.{dims, cell_index, InCellBox}
use Rattle.grid_model.specs.ScaleLaws.{IsCell}
use Rattle.directory_changes.specs.Changes.{cell_box}
use Rattle.grid_check.specs.declared.holding.Holding.{Holding}

-- the region that is held under a number
abbrev pub region_under : {K : ℕ} → List (Holding K) → ℕ → Region K
region_under holdings n = get_or (map (λ h. h.region) holdings) n (record { lo = []; hi = [] })

-- each cell of a region names a number
abbrev pub AllName : {K : ℕ} → List (List ℕ) → (ℕ → ℕ) → Region K → ℕ → Type 0
AllName scales named region n = (cell : List ℕ) → InCellBox (cell_box scales region) cell → named (cell_index (dims scales) cell) ≡ n

-- each cell below an index that names a number is one of a region
abbrev pub NoneStrays : {K : ℕ} → List (List ℕ) → (ℕ → ℕ) → Region K → ℕ → ℕ → Type 0
NoneStrays scales named region n upto = (cell : List ℕ) → IsCell (dims scales) cell → cell_index (dims scales) cell < upto → named (cell_index (dims scales) cell) ≡ n → InCellBox (cell_box scales region) cell

-- a number is the least of those that some cell below an index names outside of the number's region
pub record HasLeastStray {K : ℕ} (scales : List (List ℕ)) (named : ℕ → ℕ) (regions : ℕ → Region K) (upto number : ℕ) : Type 0 where
  pub strays : NoneStrays scales named (regions number) number upto → ⊥
  pub below : (n : ℕ) → n < number → NoneStrays scales named (regions n) n upto

-- no cell below an index names a number outside of the number's region, or this is the least such number
abbrev pub IsLeastStray : {K : ℕ} → List (List ℕ) → (ℕ → ℕ) → (ℕ → Region K) → ℕ → Option ℕ → Type 0
IsLeastStray scales named regions upto None = (n : ℕ) → NoneStrays scales named (regions n) n upto
IsLeastStray scales named regions upto (Some number) = HasLeastStray scales named regions upto number

-- the lower one of a number that may be there and another one
abbrev pub lower_one : Option ℕ → ℕ → Option ℕ
lower_one None n = Some n
lower_one (Some m) n = Some (min m n)

-- how many records are held under a number, or none where no bucket has the number
abbrev pub records_under : {K : ℕ} → List ℕ → List (Holding K) → ℕ → ℕ
records_under table holdings n = if slice_index table n == nowhere || nat_le (length table) n then 0 else slice_index (map (λ h. h.count) holdings) n
