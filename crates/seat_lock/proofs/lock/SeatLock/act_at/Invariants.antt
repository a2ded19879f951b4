use Rattle.seat_lock.proofs.lock.SeatLock.act_at.Given as goal

abbrev pub ghosts-add : goal.ghosts-add
ghosts-add g a = record { entries = g.C.Stepped.appended a.before.now.value a.place a.event.now.value }
