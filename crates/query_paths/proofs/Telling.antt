-- The numbers below a count, as those of the buckets of pages in memory.
use Rattle.std.proofs.Common.{◌<◌, ◌≤◌, ℕ, All, Contains, IsTrue, arith}
use Rattle.std.proofs.lemmas.List.Elements.{All-contains_itself, All-weaker}
use Rattle.grid_model.specs.Lists.{below, is_among}
use Rattle.grid_model.proofs.Counts.{among-range, range-among}
use Rattle.grid_model.proofs.Members.{contains-from-range}

-- a number is among those below a count exactly where it is below it
pub is-below : (count n : ℕ) → n < count → IsTrue (is_among (below count) n)
is-below count n l = range-among 0 count n (omega arith) (omega (arith, l))

pub not-below : (count n : ℕ) → count ≤ n → IsTrue (is_among (below count) n) → ⊥
not-below count n l g = absurd (omega (arith, l, (among-range 0 count n g).1))

-- each number below a count is below a greater one
pub all-below : (n m : ℕ) → n ≤ m → All (λ k. k < m) (below n)
all-below n m l = All-weaker (Contains (below n)) (λ k. k < m) (λ k c. omega (arith, l, (contains-from-range 0 n k c).1)) (below n) (All-contains_itself (below n))
