-- How many records a walk may find.
use Rattle.std.specs.Prelude.{ℕ}

-- the most records that the buckets of a million cells have, with 48 in each
unfoldable pub most_in_cells : ℕ
most_in_cells = 48000000
