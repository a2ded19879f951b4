-- Counts of failures, and numbers of statuses.
use Rattle.std.proofs.Common.{◌≡◌, ◌≢◌, ◌<◌, ◌≤◌, ℕ, arith}
use Rattle.disk_trait.specs.Causes.{Rose}

-- a count that stands at 0 has not risen
pub never_rose : Rose 0 0 → ⊥
never_rose rose = omega (arith, rose)

-- nor is it higher
pub never_higher : 0 < 0 → ⊥
never_higher lt = omega (arith, lt)

-- nor is one that stayed
pub not_higher : (a b : ℕ) → b ≡ a → a < b → ⊥
not_higher a b same lt = omega (arith, same, lt)

-- a count that rose is not 0
pub risen : (before now : ℕ) → Rose before now → now ≢ 0
risen before now rose zero = omega (arith, rose, zero)

-- a count that rose behind a call in which it stayed
pub rose_behind : (a b c : ℕ) → b ≡ a → Rose b c → Rose a c
rose_behind a b c same rose = omega (arith, same, rose)

pub not_lower : (a b c : ℕ) → a ≤ b → b ≤ c → a ≤ c
not_lower a b c p q = omega (arith, p, q)

pub same_count : (a : ℕ) → a ≤ a
same_count a = omega arith

-- a status is not 5 and 3
pub five_or_three : (n : ℕ) → n ≡ 5 → n ≡ 3 → ⊥
five_or_three n five three = omega (arith, five, three)
