-- The calls that are to fail, each counted from the next one on, and how failures are counted.
use Rattle.std.specs.Prelude.{ℕ, zero, suc, ◌+◌, ◌-◌, ◌^◌, Bool, true, false, List, map, count_by, min, Result, is_ok, if◌then◌else◌}

-- one call nearer
abbrev pub nearer : ℕ → ℕ
nearer call = call - 1

-- the same calls, counted after a call
abbrev pub after_a_call : List ℕ → List ℕ
after_a_call calls = map nearer calls

-- whether a call is still to come: those behind us are 0
abbrev pub is_ahead : ℕ → Bool
is_ahead zero = false
is_ahead (suc n) = true

-- how many calls are still to fail
abbrev pub calls_ahead : List ℕ → ℕ
calls_ahead calls = count_by is_ahead calls

-- a count of failures after a call, which stays at the largest number that a `u64` has
abbrev pub counted : {T E : Type 0} → Result T E → ℕ → ℕ
counted result before = (if is_ok result then before else min (before + 1) (2 ^ 64 - 1))
