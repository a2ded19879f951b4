-- A shape that the tests stand on.
use Rattle.std.proofs.Common.{◌≤◌, ℕ, nat_le, arith, IsTrue}
use Rattle.std.proofs.lemmas.Bool.{le-leb}
use Rattle.grid_types.specs.Shapes.{is_shape}
use Rattle.grid_types.proofs.Numbers.{both}

-- it is lawful with 2 to 1,000 cells
pub shape_is_lawful : (n : ℕ) → 2 ≤ n → n ≤ 1000 → IsTrue (is_shape (record { k = 2; capacity = 2; pages = 64; slots = 8; boundaries = 1000; cells = n }))
unfolding is_shape
shape_is_lawful n some few = both (nat_le 1 n) (nat_le n 1000000) (le-leb 1 n (omega (arith, some))) (le-leb n 1000000 (omega (arith, few)))
