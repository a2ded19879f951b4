use Rattle.std.proofs.Common.{rules}
use Rattle.seat_lock.proofs.Placing.{release_keeps_rule}
use Rattle.seat_lock.proofs.lock.SeatLock.release.Goals as goal

pub load-requires : goal.load-requires
load-requires g c = (search rules, search rules, release_keeps_rule g.C.Stepped _ _ _ _ c.requires.guest)
