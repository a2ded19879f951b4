use Rattle.std.proofs.Common.{rules, bit_or}
use Rattle.seat_lock.proofs.Turning.{change_keeps_rule}
use Rattle.seat_lock.proofs.lock.SeatLock.await_change.Goals as goal

pub fetch_or-found-requires : goal.fetch_or-found-requires
fetch_or-found-requires g c = (search rules, search rules, change_keeps_rule g.C.Stepped _ _ _ _ (λ n. bit_or n 1))
