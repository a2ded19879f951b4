use Rattle.std.proofs.Common.{rules}
use Rattle.seat_lock.proofs.Telling.{look_keeps_rule}
use Rattle.seat_lock.proofs.lock.SeatLock.learn.Goals as goal

pub load-requires : goal.load-requires
load-requires g c = (search rules, search rules, look_keeps_rule g.C.Stepped _ _ _ _)
