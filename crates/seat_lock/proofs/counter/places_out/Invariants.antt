use Rattle.std.proofs.Common.{◌≡◌, ◌≤◌}
use Rattle.seat_lock.specs.Parts.{how_many}
use Rattle.seat_lock.specs.Counters.{told_count}
use Rattle.seat_lock.proofs.counter.places_out.Given as goal

abbrev pub invariant-loop-place : goal.invariant-loop-place
invariant-loop-place l = (l.out ≡ how_many (told_count l.counter) l.place) × (l.out ≤ l.place)
