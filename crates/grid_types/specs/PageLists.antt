-- A list of page numbers, as contracts see it.
use Rattle.std.specs.Prelude.{ℕ, List}

-- page numbers in order, and how many there may be before the list takes memory
pub record RoomyPages : Type 0 where
  pub items : List ℕ
  pub room : ℕ
