-- What a search among boundaries finds.
use Rattle.std.specs.Prelude.{◌≡◌, ◌<◌, ◌≤◌, ◌+◌, ℕ, List, false, length, IsTrue}
use Rattle.std.specs.List.{insert}
use Rattle.grid_model.specs.Lists.{is_among}
use Rattle.grid_model.specs.Scales.{interval, refined}

-- a number is the boundary at an index, the last that is at most the number
pub record IsBoundaryAt (scale : List ℕ) (v i : ℕ) : Type 0 where
  pub inside : i < length scale
  pub among : IsTrue (is_among scale v)
  pub counted : interval scale v ≡ i + 1

-- a number is no boundary, and an index parts those below it from those above it
pub record FitsAt (scale : List ℕ) (v i : ℕ) : Type 0 where
  pub inside : i ≤ length scale
  pub fresh : is_among scale v ≡ false
  pub counted : interval scale v ≡ i
  pub there : refined scale v ≡ insert scale i v
