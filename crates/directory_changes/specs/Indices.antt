-- The indices of the cells of a box.
use Rattle.std.specs.Prelude.{◌<◌, ◌≤◌, ◌+◌, ◌*◌, ℕ, List, length, slice_index, nat_lt, if◌then◌else◌, Option, Some, None}
use Rattle.grid_types.specs.declared.cell_box.CellBox.{CellBox}
use Rattle.directory_pages.specs.CellBoxes.{HasIndex}

-- a box stands upright: no low interval is above the high one
abbrev pub IsUpright : {K : ℕ} → CellBox K → Type 0
IsUpright b = (a : ℕ) → a < length b.lo → slice_index b.lo a ≤ slice_index b.hi a

-- an index is the least from another one on that has a cell of the box
pub record IsLeastFrom {K : ℕ} (ns : List ℕ) (b : CellBox K) (from at : ℕ) : Type 0 where
  pub from_on : from ≤ at
  pub there : HasIndex ns b at
  pub least : (other : ℕ) → from ≤ other → HasIndex ns b other → at ≤ other

-- no index from this one on has a cell of the box
abbrev pub IsNoneOnward : {K : ℕ} → List ℕ → CellBox K → ℕ → Type 0
IsNoneOnward ns b from = (other : ℕ) → from ≤ other → HasIndex ns b other → ⊥

-- the next index with the least one of the attributes behind, where there is one; else in the next interval, where there is one
abbrev pub onward_with : ℕ → ℕ → ℕ → ℕ → Option ℕ → Option ℕ
onward_with i hi size lowest None = if nat_lt i hi then Some ((i + 1) * size + lowest) else None
onward_with i hi size lowest (Some x) = Some (i * size + x)

-- the least index for one attribute more: below its lowest interval it is the lowest of all, and above the highest there is none
abbrev pub least_with : ℕ → ℕ → ℕ → ℕ → ℕ → Option ℕ → Option ℕ
least_with i lo hi size lowest least = if nat_lt i lo then Some (lo * size + lowest) else (if nat_lt hi i then None else onward_with i hi size lowest least)
