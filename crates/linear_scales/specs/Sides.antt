-- The intervals of a scale that a side of a query meets.
use Rattle.std.specs.Prelude.{◌≤◌, ℕ, List, IsTrue}
use Rattle.grid_types.specs.declared.query.Side.{Side}
use Rattle.grid_types.specs.Queries.{admits}
use Rattle.grid_model.specs.Scales.{low, high}

-- an interval meets a side where it has a number that the side asks for
pub record Meets (scale : List ℕ) (side : Side) (i : ℕ) : Type 0 where
  pub number : ℕ
  pub above : low scale i ≤ number
  pub below : number ≤ high scale i
  pub asked : IsTrue (admits side number)
