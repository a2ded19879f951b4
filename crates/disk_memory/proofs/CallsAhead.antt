-- How many calls are still to fail: as each call goes by, and as one more is chosen.
use Rattle.std.proofs.Common.{◌≡◌, ◌≤◌, ◌+◌, ◌-◌, ℕ, zero, suc, cond, List, [], ◌∷◌, ◌++◌, sym, subst, arith}
use Rattle.std.specs.Prelude.{Contains}
use Rattle.std.proofs.lemmas.List.Sums.{sum_by-cons}
use Rattle.disk_memory.specs.Plans.{nearer, after_a_call, is_ahead, calls_ahead}

-- what one call adds
abbrev one : ℕ → ℕ
one call = cond (is_ahead call) 1 0

with_one : (call : ℕ) (calls : List ℕ) → calls_ahead (call ∷ calls) ≡ one call + calls_ahead calls
with_one call calls = sum_by-cons one call calls

one_or_none : (call : ℕ) → one call ≤ 1
one_or_none zero = omega arith
one_or_none (suc n) = omega arith

one_nearer : (call : ℕ) → one (nearer call) ≤ one call
one_nearer zero = omega arith
one_nearer (suc n) = one_or_none (nearer (suc n))

-- a call that goes by adds none
pub ahead_after : (calls : List ℕ) → calls_ahead (after_a_call calls) ≤ calls_ahead calls
ahead_after [] = omega arith
ahead_after (c ∷ cs) = omega (arith, with_one (nearer c) (after_a_call cs), with_one c cs, one_nearer c, ahead_after cs)

-- where it was to fail there is one less
pub ahead_less : (calls : List ℕ) → Contains calls 1 → calls_ahead (after_a_call calls) + 1 ≤ calls_ahead calls
ahead_less [] (k, lt, is) = absurd (omega arith)
ahead_less (c ∷ cs) (zero, lt, is) =
    subst (λ (x : ℕ). calls_ahead (after_a_call (x ∷ cs)) + 1 ≤ calls_ahead (x ∷ cs)) (sym is) (omega (arith, with_one 0 (after_a_call cs), with_one 1 cs, ahead_after cs))
ahead_less (c ∷ cs) (suc k, lt, is) = omega (arith, with_one (nearer c) (after_a_call cs), with_one c cs, one_nearer c, ahead_less cs (k, omega (arith, lt), is))

-- a call more that is chosen adds one at most
pub ahead_more : (calls : List ℕ) (call : ℕ) → calls_ahead (calls ++ call ∷ []) ≤ calls_ahead calls + 1
ahead_more [] call = omega (arith, with_one call [], one_or_none call)
ahead_more (c ∷ cs) call = omega (arith, with_one c (cs ++ call ∷ []), with_one c cs, ahead_more cs call)

-- what is kept room for, after a call, and after one that was to fail
pub room_after : (old new : List ℕ) (had room : ℕ) → new ≡ after_a_call old → calls_ahead old ≤ had → had ≤ room → calls_ahead new ≤ room
room_after old new had room is fits more = rw is (omega (arith, ahead_after old, fits, more))

pub room_some : (old : List ℕ) (had : ℕ) → Contains old 1 → calls_ahead old ≤ had → 1 ≤ had
room_some old had chosen fits = omega (arith, ahead_less old chosen, fits)

pub room_less : (old new : List ℕ) (had : ℕ) → new ≡ after_a_call old → Contains old 1 → calls_ahead old ≤ had → calls_ahead new ≤ had - 1
room_less old new had is chosen fits = rw is (omega (arith, ahead_less old chosen, fits))
