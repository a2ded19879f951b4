use Rattle.seat_lock.proofs.lock.SeatLock.learn.Given as goal

abbrev pub ghosts-absorb : goal.ghosts-absorb
ghosts-absorb g a = record { front = a.seat.now.me.0.from }
