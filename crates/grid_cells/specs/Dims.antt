-- How many intervals each attribute has.
use Rattle.std.specs.Prelude.{◌<◌, ◌≤◌, ℕ, List, length, slice_index}
use Rattle.grid_model.specs.Lists.{product}

-- each attribute has an interval, and there are at most a million cells
pub record IsDims (ns : List ℕ) : Type 0 where
  pub each : (a : ℕ) → a < length ns → 1 ≤ slice_index ns a
  pub few : product ns ≤ 1000000
