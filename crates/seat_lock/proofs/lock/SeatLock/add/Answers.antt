use Rattle.std.proofs.Common.{rules}
use Rattle.seat_lock.proofs.Turning.{grow_keeps_rule}
use Rattle.seat_lock.proofs.lock.SeatLock.add.Goals as goal

pub fetch_add-requires : goal.fetch_add-requires
fetch_add-requires g c = (search rules, search rules, grow_keeps_rule g.C.Stepped _ _ _ _ c.requires.turn.0 _ _ c.requires.turn.1 c.requires.count c.requires.room)
