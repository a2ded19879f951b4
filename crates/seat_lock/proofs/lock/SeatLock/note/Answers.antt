use Rattle.std.proofs.Common.{rules}
use Rattle.seat_lock.proofs.Telling.{note_keeps_rule}
use Rattle.seat_lock.proofs.lock.SeatLock.note.Goals as goal

pub split_seat-other-requires : goal.split_seat-other-requires
split_seat-other-requires g c = (search rules, search rules, note_keeps_rule g.C.Stepped _ _ _)
