use Rattle.std.proofs.Common.{rules, ap, ◌∙◌, Some}
use Rattle.seat_lock.proofs.Lists.{slot_first}
use Rattle.seat_lock.proofs.Meeting.{taken_carries}
use Rattle.seat_lock.proofs.Joining.{hosts, may_join, has_guest, may_hand_over, join_outcome}
use Rattle.seat_lock.proofs.lock.SeatLock.join_at.Goals as goal

pub slot_mut-requires : goal.slot_mut-requires
slot_mut-requires g c = let t = c.take.ensures.taken in (search rules, (Some t.core, slot_first c.take.new.seat.me.1 (Some t.core) (taken_carries t (ap (λ z. z.1) c.absorb.ensures.me_is ∙ c.requires.seat.1.0))))

pub join-requires : goal.join-requires
join-requires g c = let h = hosts c.args.seat.now.me c.args.other.me.0 c.args.other_place c.absorb.ensures.me_is c.take.ensures.taken c.requires.seat.1.0 c.slot_mut.ensures.value c.in-Some.is c.requires.place.1 c.requires.ends in
    let laws = g.met.C.Stepped.laws in
    record { apart = h.apart; out = (h.meeting.found, h.meeting.found_is); idle = may_join laws c.in-Some.core c.args.place c.args.other_place h; safe = (c.args.seat.now.me.0.from, h.meeting.history, h.meeting.parts, h.meeting.fits.is_safe) }

pub release-requires-clause-guest : goal.release-requires-clause-guest
release-requires-clause-guest g c = let h = hosts c.args.seat.now.me c.args.other.me.0 c.args.other_place c.absorb.ensures.me_is c.take.ensures.taken c.requires.seat.1.0 c.slot_mut.ensures.value c.in-Some.is c.requires.place.1 c.requires.ends in
    has_guest g.met.C.Stepped.laws c.in-Some.core c.args.place c.args.other_place h

pub hand_over-requires-clause-value : goal.hand_over-requires-clause-value
hand_over-requires-clause-value g c = let h = hosts c.args.seat.now.me c.args.other.me.0 c.args.other_place c.absorb.ensures.me_is c.take.ensures.taken c.requires.seat.1.0 c.slot_mut.ensures.value c.in-Some.is c.requires.place.1 c.requires.ends in
    may_hand_over g.met.C.Stepped.laws c.join.new.self c.args.place c.args.other_place h c.join.ensures c.release.ensures.me_is

pub returns : goal.returns
returns g c = let h = hosts c.args.seat.now.me c.args.other.me.0 c.args.other_place c.absorb.ensures.me_is c.take.ensures.taken c.requires.seat.1.0 c.slot_mut.ensures.value c.in-Some.is c.requires.place.1 c.requires.ends in
    let back = join_outcome g.met.C.Stepped.laws c.join.new.self c.args.place c.args.other_place h c.join.ensures c.release.ensures.me_is c.hand_over.ensures.given in
    record { seat = search rules; rests = back.0; joined = back.1 }
