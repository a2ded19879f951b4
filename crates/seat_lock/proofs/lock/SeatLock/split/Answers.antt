use Rattle.std.proofs.Common.{Err, sym, ap, ◌∙◌, subst}
use Rattle.seat_lock.specs.declared.view.View.{View}
use Rattle.seat_lock.specs.Outcomes.{ForkAnswered, SplitOff}
use Rattle.seat_lock.proofs.Meeting.{view_of_badge, view_of_chair}
use Rattle.seat_lock.proofs.lock.SeatLock.split.Goals as goal

pub returns-in-Ok-clause-ok : goal.returns-in-Ok-clause-ok
returns-in-Ok-clause-ok g c = let V = View g.row.C-Entry.Denot g.row.C-Part.Denot in
    let before = view_of_chair c.chair.inside.badge.table_id c.chair.view_is c.chair.invariant (sym (ap (λ z. z.views) c.replace-badge.ensures.value) ∙ c.into_seat-seat.ensures.2) in
    let after = view_of_badge c.into_badge.result.table_id c.into_badge.ensures.2 c.split_at.ensures.rests.1 in
    let other = view_of_badge c.into_badge-in-Ok.result.table_id c.into_badge-in-Ok.ensures.2 c.in-Ok.ensures.other.1.1 in
    (c.in-Ok.new, subst (λ (z : V × V × V). SplitOff g.C.Stepped z.0 z.1 z.2 c.in-Ok.new) (λ i. (sym before i, sym after i, sym other i)) c.in-Ok.ensures.ok)

pub returns-in-Err-clause-err : goal.returns-in-Err-clause-err
returns-in-Err-clause-err g c = let V = View g.row.C-Entry.Denot g.row.C-Part.Denot in
    let before = view_of_chair c.chair.inside.badge.table_id c.chair.view_is c.chair.invariant (sym (ap (λ z. z.views) c.replace-badge.ensures.value) ∙ c.into_seat-seat.ensures.2) in
    let after = view_of_badge c.into_badge-in-Err.result.table_id c.into_badge-in-Err.ensures.2 c.split_at.ensures.rests.1 in
    subst (λ (z : V × V). ForkAnswered g.C.Stepped z.0 z.1 (Err c.in-Err.reply)) (λ i. (sym before i, sym after i)) c.in-Err.ensures.err
