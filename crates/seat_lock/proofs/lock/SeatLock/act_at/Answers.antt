use Rattle.std.proofs.Common.{rules, ◌≡◌, ◌∷◌, ◌∙◌, arith, length, Some}
use Rattle.atomic_table.specs.Table.{rest}
use Rattle.seat_lock.specs.Views.{with_more}
use Rattle.seat_lock.proofs.Lists.{slot_first}
use Rattle.seat_lock.proofs.Meeting.{taken_carries}
use Rattle.seat_lock.proofs.Acting.{taken_ready, may_step, step_counts, may_hand_over, act_outcome}
use Rattle.seat_lock.proofs.lock.SeatLock.act_at.Goals as goal

pub slot_mut-requires : goal.slot_mut-requires
slot_mut-requires g c = let t = c.take_for.ensures.taken in (search rules, (Some t.core, slot_first c.take_for.new.seat.me.1 (Some t.core) (taken_carries t c.requires.seat.1.0)))

pub step-reply-requires-clause-allowed : goal.step-reply-requires-clause-allowed
step-reply-requires-clause-allowed g c = let laws = g.met.C.Stepped.laws in let event = c.args.event in
    may_step laws c.args.place event (taken_ready laws c.args.place event c.take_for.ensures.taken c.requires.seat.1.0 c.slot_mut.ensures.value c.in-Some.is c.requires.allowed c.take_for.ensures.enabled)

pub overflow_sub-count : goal.overflow_sub-count
overflow_sub-count g c = let laws = g.met.C.Stepped.laws in let event = c.args.event in
    let r = taken_ready laws c.args.place event c.take_for.ensures.taken c.requires.seat.1.0 c.slot_mut.ensures.value c.in-Some.is c.requires.allowed c.take_for.ensures.enabled in
    let k = step_counts laws c.step-reply.new.self c.args.place event c.step-reply.result r c.step-reply.ensures in
    let a = c.front-front.ensures in let b = c.front.ensures in omega (arith, k.0, k.1, a, b)

pub add-requires-clause-count : goal.add-requires-clause-count
add-requires-clause-count g c = let laws = g.met.C.Stepped.laws in let event = c.args.event in
    let r = taken_ready laws c.args.place event c.take_for.ensures.taken c.requires.seat.1.0 c.slot_mut.ensures.value c.in-Some.is c.requires.allowed c.take_for.ensures.enabled in
    let k = step_counts laws c.step-reply.new.self c.args.place event c.step-reply.result r c.step-reply.ensures in
    let a = c.front-front.ensures in let b = c.front.ensures in let appended = g.C.Stepped.appended in
    let same : length (appended c.of-before.result.value c.args.place c.of-asked.result.value) ≡ length (appended c.in-Some.core c.args.place event) = λ i. length (appended (c.of-before.ensures i) c.args.place (c.of-asked.ensures i)) in
    omega (arith, k.0, k.1, a, b)

pub hand_over-requires-clause-value : goal.hand_over-requires-clause-value
hand_over-requires-clause-value g c = let laws = g.met.C.Stepped.laws in let event = c.args.event in let w = c.take_for.new.seat.me in
    let r = taken_ready laws c.args.place event c.take_for.ensures.taken c.requires.seat.1.0 c.slot_mut.ensures.value c.in-Some.is c.requires.allowed c.take_for.ensures.enabled in
    may_hand_over laws c.step-reply.new.self c.args.place event c.step-reply.result r c.step-reply.ensures
    (c.add.ensures.me_is ∙ (λ i. (with_more w.0 (g.C.Stepped.appended (c.of-before.ensures i) c.args.place (c.of-asked.ensures i)), (0, Some c.step-reply.new.self) ∷ rest w.1)))

pub returns : goal.returns
returns g c = let laws = g.met.C.Stepped.laws in let event = c.args.event in let w = c.take_for.new.seat.me in
    let r = taken_ready laws c.args.place event c.take_for.ensures.taken c.requires.seat.1.0 c.slot_mut.ensures.value c.in-Some.is c.requires.allowed c.take_for.ensures.enabled in
    let a = act_outcome laws c.step-reply.new.self c.args.place event c.step-reply.result r c.step-reply.ensures
    (c.add.ensures.me_is ∙ (λ i. (with_more w.0 (g.C.Stepped.appended (c.of-before.ensures i) c.args.place (c.of-asked.ensures i)), (0, Some c.step-reply.new.self) ∷ rest w.1))) c.hand_over.ensures.given c.requires.seat.1.1 in
    record { seat = search rules; rests = a.0; acted = a.1 }
