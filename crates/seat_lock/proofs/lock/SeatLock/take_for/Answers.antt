use Rattle.std.proofs.Common.{refl, sym, subst}
use Rattle.seat_lock.specs.Plays.{Taken}
use Rattle.seat_lock.proofs.Lists.{begins_self}
use Rattle.seat_lock.proofs.Meeting.{taken_later}
use Rattle.seat_lock.proofs.lock.SeatLock.take_for.Goals as goal

pub loop-init : goal.loop-init
loop-init g c = let v = c.args.seat.now.me.0 in (record { table = refl; id = refl }, (v.seen, (λ i. (v, c.requires.seat.1 i)), begins_self v.seen))

pub returns-then-finds_enabled-clause-taken : goal.returns-then-finds_enabled-clause-taken
returns-then-finds_enabled-clause-taken g c = let i = c.loop.invariant.1 in
    subst (Taken g.C.Stepped c.args.seat.now.me) (sym c.finds_enabled.ensures.seat.me_is) (taken_later c.requires.seat.1 i.1 i.2 c.take.ensures.taken)
