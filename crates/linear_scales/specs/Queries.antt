-- The box of the cells that a query meets.
use Rattle.std.specs.Prelude.{◌≡◌, ℕ, List, map, IsTrue}
use Rattle.grid_types.specs.declared.query.Side.{Side}
use Rattle.grid_types.specs.Keys.{IsKey}
use Rattle.grid_types.specs.Queries.{matches, begin_of, end_of}
use Rattle.grid_model.specs.Cells.{cell_of}

-- the cell of the least key that is asked for
abbrev pub lowest_cell : List (List ℕ) → List Side → List ℕ
lowest_cell scales sides = cell_of scales (map begin_of sides)

-- the cell of the greatest key that is asked for
abbrev pub highest_cell : List (List ℕ) → List Side → List ℕ
highest_cell scales sides = cell_of scales (map end_of sides)

-- a cell meets a query where a key of the cell matches
pub record MeetsQuery (K : ℕ) (scales : List (List ℕ)) (sides : List Side) (cell : List ℕ) : Type 0 where
  pub key : List ℕ
  pub is_key : IsKey K key
  pub there : cell_of scales key ≡ cell
  pub asked : IsTrue (matches sides key)
