-- The number that a half of the journal has in a file.
use Rattle.std.specs.Prelude.{ℕ}
use Rattle.grid_types.specs.declared.half.Half.{Half}
use Rattle.grid_types.specs.declared.half.Half.TheVariants.{First, Second}

-- the first half is 0, and the second is 1
abbrev pub half_number : Half → ℕ
half_number First = 0
half_number Second = 1
