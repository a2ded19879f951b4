use Rattle.std.proofs.Common.{rules}
use Rattle.seat_lock.proofs.Turning.{back_keeps_rule}
use Rattle.seat_lock.proofs.lock.SeatLock.put_back.Goals as goal

pub swap-found-requires : goal.swap-found-requires
swap-found-requires g c = (search rules, search rules, back_keeps_rule g.C.Stepped _ _ _ _ (search rules) c.requires.value)
