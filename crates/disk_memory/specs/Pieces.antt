-- How many bytes go in one piece.
use Rattle.std.specs.Prelude.{ℕ, min, nat_eq, if◌then◌else◌}

-- as many of these bytes as a limit lets through, where 0 is no limit
abbrev pub piece_of : ℕ → ℕ → ℕ
piece_of limit count = (if nat_eq limit 0 then count else min count limit)
