-- The numbers that a seed draws.
use Rattle.std.specs.Prelude.{ℕ, zero, suc, ◌*◌, ◌%◌, List, map}
use Rattle.std.specs.List.{range_with_len}
use Rattle.grid_gen.specs.declared.draws.TheConstants.{MULTIPLIER, MODULUS}

-- the number that is drawn behind another: the remainder of its product with the multiplier by the modulus
unfoldable pub drawn : ℕ → ℕ
drawn x = x * MULTIPLIER % MODULUS

-- draw i of a seed: draw 0 is the seed itself, and each other one is drawn behind the one before it
unfoldable pub nth_draw : ℕ → ℕ → ℕ
nth_draw seed zero = seed
nth_draw seed (suc i) = drawn (nth_draw seed i)

-- so many draws of a seed in a row, from draw i on
unfoldable pub draws_from : ℕ → ℕ → ℕ → List ℕ
draws_from seed i n = map (nth_draw seed) (range_with_len i n)
