use Rattle.seat_lock.specs.Turns.{Becomes}
use Rattle.seat_lock.proofs.lock.SeatLock.take_soon.Given as goal

abbrev pub invariant-loop : goal.invariant-loop
invariant-loop g l = Becomes l.initial.seat l.seat l.initial.seat.me
