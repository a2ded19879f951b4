-- The keys of the records that are cut, and their numbers in an attribute.
use Rattle.std.specs.Prelude.{ℕ, List, map, filter, length, nat_lt, slice_index, All, IsTrue, IsPermutation}
use Rattle.std.specs.List.Sorted.{IsNonDecreasing}
use Rattle.grid_types.specs.declared.region.Region.{Region}
use Rattle.grid_types.specs.declared.update.Record.{Record}
use Rattle.grid_types.specs.Regions.{contains}

-- the keys of some records
abbrev pub keys_of : {K : ℕ} → List (Record K) → List (List ℕ)
keys_of rows = map (λ r. r.key.numbers) rows

-- the numbers of keys in an attribute
abbrev pub numbers_in : List (List ℕ) → ℕ → List ℕ
numbers_in keys a = map (λ k. slice_index k a) keys

-- each record lies in the region
abbrev pub LieIn : {K : ℕ} → Region K → List (Record K) → Type 0
LieIn r rows = All (λ row. IsTrue (contains r row.key.numbers)) rows

-- how many of some numbers lie below a number
abbrev pub count_below : List ℕ → ℕ → ℕ
count_below numbers v = length (filter (λ n. nat_lt n v) numbers)

-- these are the numbers of the keys in an attribute, and they ascend
pub record AreAscending (keys : List (List ℕ)) (a : ℕ) (numbers : List ℕ) : Type 0 where
  pub same : IsPermutation (numbers_in keys a) numbers
  pub ascend : IsNonDecreasing numbers
