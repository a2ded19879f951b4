-- Bits of a page that are turned.
use Rattle.std.specs.Prelude.{ℕ, List, set, slice_index, bit_xor}

-- a page of which some bits of the byte at a place are turned
abbrev pub with_turned : ℕ → ℕ → List ℕ → List ℕ
with_turned at bits page = set page at (bit_xor (slice_index page at) bits)
