use Rattle.std.proofs.Common.{rules, arith}
use Rattle.seat_lock.proofs.Turning.{call_keeps_rule}
use Rattle.seat_lock.proofs.lock.SeatLock.take_or_call.Goals as goal

pub swap-requires : goal.swap-requires
swap-requires g c = (search rules, search rules, call_keeps_rule g.C.Stepped _ _ _ _ 2 (search rules) (λ e. omega arith))
