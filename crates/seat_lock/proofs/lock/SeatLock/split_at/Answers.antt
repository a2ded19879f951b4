use Rattle.std.proofs.Common.{rules, Some, refl}
use Rattle.seat_lock.proofs.Lists.{slot_first}
use Rattle.seat_lock.proofs.Meeting.{taken_carries, has_met}
use Rattle.seat_lock.proofs.Forking.{may_give_away, may_hand_over_refused, may_hand_over_forked, refusal_outcome, fork_outcome}
use Rattle.seat_lock.proofs.lock.SeatLock.split_at.Goals as goal

pub slot_mut-requires : goal.slot_mut-requires
slot_mut-requires g c = let t = c.take.ensures.taken in (search rules, (Some t.core, slot_first c.take.new.seat.me.1 (Some t.core) (taken_carries t c.requires.seat.1.0)))

pub fork-answer-requires-clause-out : goal.fork-answer-requires-clause-out
fork-answer-requires-clause-out g c = let h = has_met c.take.ensures.taken c.requires.seat.1.0 c.slot_mut.ensures.value c.in-Some.is c.requires.place.1 in (h.meeting.found, h.meeting.found_is)

pub cut-other-requires-clause-free : goal.cut-other-requires-clause-free
cut-other-requires-clause-free g c = let h = has_met c.take.ensures.taken c.requires.seat.1.0 c.slot_mut.ensures.value c.in-Some.is c.requires.place.1 in
    may_give_away g.met.C.Stepped.laws c.fork-answer.new.self c.args.place h c.in-Ok.new c.in-Ok.ensures c.of-after.ensures

pub hand_over-requires-clause-value : goal.hand_over-requires-clause-value
hand_over-requires-clause-value g c = let h = has_met c.take.ensures.taken c.requires.seat.1.0 c.slot_mut.ensures.value c.in-Some.is c.requires.place.1 in
    may_hand_over_forked g.met.C.Stepped.laws c.fork-answer.new.self c.args.place h c.in-Ok.new c.in-Ok.ensures c.of-after.ensures c.cut-other.ensures.seat.me_is

pub returns-in-Ok : goal.returns-in-Ok
returns-in-Ok g c = let h = has_met c.take.ensures.taken c.requires.seat.1.0 c.slot_mut.ensures.value c.in-Some.is c.requires.place.1 in
    let made = fork_outcome g.met.C.Stepped.laws c.fork-answer.new.self c.args.place h c.in-Ok.new c.in-Ok.ensures c.of-after.ensures c.cut-other.ensures.seat.me_is c.hand_over.ensures.given c.cut-other.ensures.new c.requires.seat.1.1 in
    record { seat = search rules; rests = made.0; other = (search rules, made.1); ok = made.2; err = search rules }

pub hand_over-requires-in-Err-clause-value : goal.hand_over-requires-in-Err-clause-value
hand_over-requires-in-Err-clause-value g c = let h = has_met c.take.ensures.taken c.requires.seat.1.0 c.slot_mut.ensures.value c.in-Some.is c.requires.place.1 in
    may_hand_over_refused g.met.C.Stepped.laws c.fork-answer.new.self c.args.place h c.in-Err.reply c.in-Err.ensures refl

pub returns : goal.returns
returns g c = let h = has_met c.take.ensures.taken c.requires.seat.1.0 c.slot_mut.ensures.value c.in-Some.is c.requires.place.1 in
    let refused = refusal_outcome g.met.C.Stepped.laws c.fork-answer.new.self c.args.place h c.in-Err.reply c.in-Err.ensures refl c.hand_over-in-Err.ensures.given c.requires.seat.1.1 in
    record { seat = search rules; rests = refused.0; other = search rules; ok = search rules; err = refused.1 }
