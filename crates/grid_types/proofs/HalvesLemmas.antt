-- There are two halves.
use Rattle.std.proofs.Common.{◌<◌, arith}
use Rattle.grid_types.specs.declared.half.Half.{Half}
use Rattle.grid_types.specs.declared.half.Half.TheVariants.{First, Second}
use Rattle.grid_types.specs.Halves.{half_number}

-- the number of a half is 0 or 1
pub half_small : (h : Half) → half_number h < 2
half_small First = omega arith
half_small Second = omega arith
