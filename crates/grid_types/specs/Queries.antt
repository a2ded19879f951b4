-- What a query asks of a key.
use Rattle.std.specs.Prelude.{ℕ, List, Bool, true, ◌&&◌, ◌==◌, nat_le}
use Rattle.std.specs.List.{list_all}
use lib.Pointwise.{pointwise}
use Rattle.grid_types.specs.declared.query.Side.{Side}
use Rattle.grid_types.specs.declared.query.Side.TheVariants.{Any, Exactly, Between}
use Rattle.grid_types.specs.Keys.{top}

-- whether a side asks for a number
abbrev pub admits : Side → ℕ → Bool
admits Any n = true
admits (Exactly wanted) n = n == wanted
admits (Between lo hi) n = nat_le lo n && nat_le n hi

-- a key matches where each side asks for its attribute's number
unfoldable pub matches : List Side → List ℕ → Bool
matches sides key = pointwise admits sides key

-- the least number that a side asks for
abbrev pub begin_of : Side → ℕ
begin_of Any = 0
begin_of (Exactly n) = n
begin_of (Between lo hi) = lo

-- the greatest number that a side asks for
abbrev pub end_of : Side → ℕ
end_of Any = top
end_of (Exactly n) = n
end_of (Between lo hi) = hi

-- a side is straight where it does not end below its begin
abbrev pub is_straight : Side → Bool
is_straight Any = true
is_straight (Exactly wanted) = true
is_straight (Between lo hi) = nat_le lo hi

-- a query is lawful where each side is straight
abbrev pub is_lawful : List Side → Bool
is_lawful sides = list_all is_straight sides
