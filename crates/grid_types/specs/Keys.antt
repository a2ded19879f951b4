-- What a key is as a list of its numbers, and how keys are ordered.
use Rattle.std.specs.Prelude.{◌≡◌, ◌<◌, ◌^◌, ℕ, List, length, slice_index}
use Rattle.std.specs.Ordering.{nat_cmp}
use Rattle.std.specs.Cmp.{IsTotalOrder}
use Rattle.std.specs.declared.cmp.Ordering.{Ordering}
use Rattle.std.specs.declared.cmp.Ordering.TheVariants.{Equal}
use Rattle.std.specs.Cmp.Lexicographic.{slice_cmp}

-- the greatest number of an attribute
abbrev pub top : ℕ
top = 18446744073709551615

-- keys are compared number by number, the first attribute first
abbrev pub key_cmp : List ℕ → List ℕ → Ordering
key_cmp = slice_cmp nat_cmp

-- a key has one number of 64 bits for each attribute
pub record IsKey (K : ℕ) (at : List ℕ) : Type 0 where
  pub count : length at ≡ K
  pub in_range : (a : ℕ) → slice_index at a < 2 ^ 64

-- a comparison orders keys where it is a total order by which two keys of equal rank are one key
pub record OrdersKeys (cmp : List ℕ → List ℕ → Ordering) : Type 0 where
  pub total : IsTotalOrder cmp
  pub one : (k m : List ℕ) → cmp k m ≡ Equal → k ≡ m
