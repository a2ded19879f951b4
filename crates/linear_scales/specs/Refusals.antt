-- When a scale takes a boundary, and why it refuses one.
use Rattle.std.specs.Prelude.{◌≡◌, ◌<◌, ◌≤◌, ℕ, false, length, IsTrue}
use Rattle.grid_model.specs.Lists.{is_among}
use Rattle.linear_scales.specs.declared.refused.ScaleRefused.{ScaleRefused}
use Rattle.linear_scales.specs.declared.refused.ScaleRefused.TheVariants.{Present, Limit}
use Rattle.linear_scales.specs.Limited.{LimitedScale}

-- a scale takes a number that is no boundary while its limit is not reached
pub record TakesBoundary (s : LimitedScale) (v : ℕ) : Type 0 where
  pub fresh : is_among s.boundaries v ≡ false
  pub room : length s.boundaries < s.limit

-- a number is refused as present where it is a boundary, and for the limit where it is none and the limit is reached
abbrev pub IsCause : LimitedScale → ℕ → ScaleRefused → Type 0
IsCause s v Present = IsTrue (is_among s.boundaries v)
IsCause s v Limit = (is_among s.boundaries v ≡ false) × (s.limit ≤ length s.boundaries)
