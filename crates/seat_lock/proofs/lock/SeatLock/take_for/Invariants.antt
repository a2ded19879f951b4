use Rattle.std.proofs.Common.{◌≡◌, [], List}
use Rattle.seat_lock.specs.Parts.{Begins}
use Rattle.seat_lock.specs.Turns.{SameSeat}
use Rattle.seat_lock.specs.Views.{with_seen}
use Rattle.seat_lock.proofs.lock.SeatLock.take_for.Given as goal

abbrev pub invariant-loop : goal.invariant-loop
invariant-loop g l = SameSeat l.initial.seat l.seat
    × ((seen : List g.row.C-Entry.Denot) × (l.seat.me ≡ (with_seen l.initial.seat.me.0 seen, [])) × Begins l.initial.seat.me.0.seen seen)
