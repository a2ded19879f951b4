use Rattle.std.proofs.Common.{rules, ap, ◌∙◌, Some}
use Rattle.seat_lock.proofs.Lists.{slot_first}
use Rattle.seat_lock.proofs.Meeting.{taken_carries}
use Rattle.seat_lock.proofs.Closing.{closed_alone}
use Rattle.seat_lock.proofs.lock.SeatLock.take_out.Goals as goal

pub exchange-requires : goal.exchange-requires
exchange-requires g c = let t = c.take.ensures.taken in
    (search rules, (Some t.core, slot_first c.finds_out-out.new.seat.me.1 (Some t.core) (ap (λ q. q.1) c.finds_out-out.ensures.seat.me_is ∙ taken_carries t c.requires.seat.1.0)))

pub returns-clause-closed : goal.returns-clause-closed
returns-clause-closed g c =
    closed_alone c.take.ensures.taken c.requires.seat.1.0 c.finds_out-out.ensures.seat.me_is c.exchange.ensures.2 c.in-Some.is c.requires.place.2 c.finds_out-out.ensures.found c.if-shared.false
