use Rattle.std.proofs.Common.{rules}
use Rattle.seat_lock.proofs.Turning.{try_keeps_rule}
use Rattle.seat_lock.proofs.lock.SeatLock.try_take.Goals as goal

pub compare_exchange-requires : goal.compare_exchange-requires
compare_exchange-requires g c = (search rules, search rules, try_keeps_rule g.C.Stepped _ _ _ _ (search rules))
