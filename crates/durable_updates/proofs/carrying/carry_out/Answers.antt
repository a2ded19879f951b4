use Rattle.std.proofs.Common.{rules, ◌∙◌, ◌+◌, ◌<◌, ◌≤◌, ◌^◌, ℕ, Result, Err, sym, ap, subst, arith}
use Rattle.std.proofs.lemmas.Result.{err_from_is_err_and}
use Rattle.disk_trait.proofs.Calls.{changes_then}
use Rattle.grid_types.specs.declared.shape.Shape.{Shape}
use Rattle.grid_types.specs.declared.sizes.TheConstants.{MOST_UPDATES}
use Rattle.update_plans.specs.Plans.{IsPlanOf}
use Rattle.file_updates.specs.Ready.{IsReadyPlan}
use Rattle.std.specs.List.{count_by}
use Rattle.grid_types.specs.declared.refusal.Refusal.{Refusal}
use Rattle.grid_model.specs.Lone.{change, claimed, free, queued}
use Rattle.page_states.specs.States.{is_claimed}
use Rattle.client_sessions.specs.Points.{standing_of}
use Rattle.durable_updates.specs.Carried.{IsCarriedAlone}
use Rattle.durable_updates.specs.Goings.{IsOpenSwept}
use Rattle.durable_updates.proofs.Carryings.{cause_after, done_alone, full_alone, ok_none, putting_alone, ready_kept, refused_carried}
use Rattle.durable_updates.proofs.Writings.{carried_after}
use Rattle.durable_updates.proofs.carrying.carry_out.Goals as goal

pub returns-in_err-make_room-clause-carried : goal.returns-in_err-make_room-clause-carried
returns-in_err-make_room-clause-carried g c = λ told m e w of.
    let r = err_from_is_err_and c.from_residual.result c.from_residual.ensures.1 in
    refused_carried {K = g.row.K} {D = g.row.D.Denot} g.D.Disk c.args.file.now c.make_room.new.file c.in_err-make_room.ensures.same m w e c.args.update.now c.args.plan.now.note c.args.plan.now.need c.from_residual.result _ (r.1 ∙ ap Err r.2) of.need c.in_err-make_room.ensures.refused

pub put_through-requires : goal.put_through-requires
put_through-requires g c =
    let f = c.args.file.now in
    let mid = c.make_room.new.file in
    let goes = c.in_ok-make_room.ensures.same in
    let ready : IsReadyPlan {K = g.row.K} mid.books c.args.update.now c.args.plan.now = ready_kept {K = g.row.K} f.books mid.books c.args.update.now c.args.plan.now goes.reading c.requires.ready in
    let place : mid.books.front + MOST_UPDATES < 2 ^ 63 = omega (arith, goes.reading.front, c.requires.place) in
    search (rules, ready, place, goes.same.unclaimed)

pub returns-in_err-make_room-clause-alone : goal.returns-in_err-make_room-clause-alone
returns-in_err-make_room-clause-alone g c = λ told e s swept of.
    let f = c.args.file.now in
    let new = c.make_room.new.file in
    let u = c.args.update.now in
    let p = c.args.plan.now in
    let r = err_from_is_err_and c.from_residual.result c.from_residual.ensures.1 in
    subst (λ (x : Result Unit Refusal). IsCarriedAlone g.D.Disk s u (change f.books.shape s e u p.note) x new.books new.disk) (sym (r.1 ∙ ap Err r.2))
    (full_alone f.books.shape s e u p.note g.D.Disk Unit _ new.books new.disk p.need of.need (c.in_err-make_room.ensures.alone (standing_of s) s swept))

pub returns-clause-carried : goal.returns-clause-carried
returns-clause-carried g c = λ told m e w of.
    let f = c.args.file.now in
    let mid = c.make_room.new.file in
    let new = c.put_through.new.file in
    let u = c.args.update.now in
    let p = c.args.plan.now in
    let goes = c.in_ok-make_room.ensures.same in
    let of-mid = subst (λ (shape : Shape). IsPlanOf shape m.layout m.table u e c.args.room.now.first.value c.args.room.now.second.value p) (sym goes.reading.shape) of in
    carried_after {K = g.row.K} {D = g.row.D.Denot} g.D.Disk m e u p.note c.put_through.result f.disk mid.disk new.disk new.books goes.changes.honest (goes.moments m w)
    (c.put_through.ensures.carried (goes.changes.honest ∙ told) m e (goes.stays m w) of-mid)

pub returns-clause-alone : goal.returns-clause-alone
returns-clause-alone g c = λ told e s swept of.
    let f = c.args.file.now in
    let mid = c.make_room.new.file in
    let new = c.put_through.new.file in
    let u = c.args.update.now in
    let p = c.args.plan.now in
    let m = standing_of s in
    let shape = f.books.shape in
    let goes = c.in_ok-make_room.ensures.same in
    let of-mid = subst (λ (x : Shape). IsPlanOf x s.layout s.table u e c.args.room.now.first.value c.args.room.now.second.value p) (sym goes.reading.shape) of in
    let room = subst (λ (q : ℕ). IsOpenSwept g.D.Disk mid.books m (queued shape (claimed shape q s)) mid.disk × (q ≤ free shape (claimed shape q s))) of.need (c.in_ok-make_room.ensures.alone m s swept) in
    done_alone shape s e u p.note g.D.Disk c.put_through.result new.books new.disk of.change.holds room.1
    (c.put_through.ensures.alone (goes.changes.honest ∙ told) m e _ room.0.alone of-mid)
    (ok_none c.put_through.result (count_by is_claimed new.books.pages) (count_by is_claimed mid.books.pages) c.put_through.ensures.claims room.0.unclaimed)
    (λ why is. putting_alone {K = g.row.K} Unit g.D.Disk s u (change shape s e u p.note) mid new c.put_through.new.room.parts.value.old_page c.put_through.result why new.books new.disk is c.put_through.ensures.refused)

pub returns-clause-refused : goal.returns-clause-refused
returns-clause-refused g c = cause_after {K = g.row.K} {D = g.row.D.Denot} Unit g.D.Disk c.args.file.now c.make_room.new.file c.put_through.new.file c.put_through.new.room.parts.value.old_page c.put_through.result c.in_ok-make_room.ensures.same c.put_through.ensures.changes c.put_through.ensures.refused

pub returns-clause-changes : goal.returns-clause-changes
returns-clause-changes g c = changes_then (λ x y step. step) (λ x y z one two. two ∙ one) c.in_ok-make_room.ensures.same.changes c.put_through.ensures.changes
