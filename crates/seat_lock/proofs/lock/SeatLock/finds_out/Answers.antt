use Rattle.std.proofs.Common.{rules, Some}
use Rattle.seat_lock.proofs.Lists.{slot_first}
use Rattle.seat_lock.proofs.lock.SeatLock.finds_out.Goals as goal

pub slot_mut-requires : goal.slot_mut-requires
slot_mut-requires g c = let o = c.requires.value in (search rules, (Some o.0, slot_first c.args.seat.now.me.1 (Some o.0) o.1))
