-- What a source gives and a sink receives.
use Rattle.std.specs.Prelude.{◌≡◌, ◌≤◌, ℕ, List, ◌++◌, length, take, drop}

-- the first n bytes that were left stand at the start of out, and the others are left
pub record Takes (old new out : List ℕ) (n : ℕ) : Type 0 where
  pub enough : n ≤ length old
  pub given : take n out ≡ take n old
  pub left : new ≡ drop n old

-- a sink has received a front of these bytes beside what it had
pub record AddsFront (old new bytes : List ℕ) : Type 0 where
  pub count : ℕ
  pub added : new ≡ old ++ take count bytes
