-- Where a cell of a box may still grow.
use Rattle.std.specs.Prelude.{◌≡◌, ◌<◌, ◌^◌, ℕ, List, slice_index}

-- an attribute is the last of K in which a cell lies below another one, whose interval there is a number of 32 bits
pub record IsLastBelow (K : ℕ) (hi cell : List ℕ) (a : ℕ) : Type 0 where
  pub inside : a < K
  pub below : slice_index cell a < slice_index hi a
  pub in_range : slice_index hi a < 2 ^ 32
  pub rest : (b : ℕ) → a < b → b < K → slice_index cell b ≡ slice_index hi b
