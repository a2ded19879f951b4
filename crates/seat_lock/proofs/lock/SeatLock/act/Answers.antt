use Rattle.std.proofs.Common.{sym, ap, ◌∙◌, subst}
use Rattle.seat_lock.specs.declared.view.View.{View}
use Rattle.seat_lock.specs.Outcomes.{Acted}
use Rattle.seat_lock.proofs.Meeting.{view_of_badge, view_of_chair}
use Rattle.seat_lock.proofs.lock.SeatLock.act.Goals as goal

pub returns-clause-acted : goal.returns-clause-acted
returns-clause-acted g c = let V = View g.row.C-Entry.Denot g.row.C-Part.Denot in
    let before = view_of_chair c.chair.inside.badge.table_id c.chair.view_is c.chair.invariant (sym (ap (λ z. z.views) c.replace-badge.ensures.value) ∙ c.into_seat-seat.ensures.2) in
    let after = view_of_badge c.into_badge.result.table_id c.into_badge.ensures.2 c.act_at-reply.ensures.rests.1 in
    subst (λ (z : V × V). Acted g.C.Stepped z.0 z.1 c.args.event c.act_at-reply.result) (λ i. (sym before i, sym after i)) c.act_at-reply.ensures.acted
