-- A scale as a file keeps it: its boundaries, and the most that it may have.
use Rattle.std.specs.Prelude.{◌<◌, ◌≤◌, ◌^◌, ℕ, List, length, map, IsTrue}
use Rattle.grid_model.specs.Scales.{is_scale}

-- a scale with a limit: its boundaries, and the most that it may have
pub record LimitedScale : Type 0 where
  pub boundaries : List ℕ
  pub limit : ℕ

-- it is lawful where its boundaries are a scale and at most as many as its limit, a number of 16 bits
pub record IsLimited (s : LimitedScale) : Type 0 where
  pub scale : IsTrue (is_scale s.boundaries)
  pub count : length s.boundaries ≤ s.limit
  pub in_range : s.limit < 2 ^ 16

-- the scales without their limits
abbrev pub scales_of : List LimitedScale → List (List ℕ)
scales_of ss = map (λ s. s.boundaries) ss

-- the limits of the scales
abbrev pub limits_of : List LimitedScale → List ℕ
limits_of ss = map (λ s. s.limit) ss
