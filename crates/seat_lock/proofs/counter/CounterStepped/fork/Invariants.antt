use Rattle.std.proofs.Common.{◌≡◌, ◌≢◌, ◌<◌, ℕ, None}
use Rattle.seat_lock.specs.Counters.{told_count}
use Rattle.seat_lock.proofs.counter.CounterStepped.fork.Given as goal

abbrev pub invariant-loop-place : goal.invariant-loop-place
invariant-loop-place l = (l.self ≡ l.initial.self) × ((p : ℕ) → p < l.place → told_count l.self p ≢ None)
