use Rattle.std.proofs.Common.{◌∙◌, length, Err, refl, ap, subst}
use Rattle.std.specs.Prelude.{OnOk}
use Rattle.std.proofs.lemmas.Result.{err_from_is_err_and}
use Rattle.disk_trait.proofs.Calls.{changes_then}
use Rattle.std.specs.List.{count_by}
use Rattle.grid_types.specs.declared.update.Update.{Update}
use Rattle.grid_model.specs.Lone.{published}
use Rattle.page_states.specs.States.{is_claimed}
use Rattle.file_images.specs.Meets.{Meets}
use Rattle.file_standing.specs.Files.{IsAlone}
use Rattle.file_standing.specs.Open.{IsOpenAlone}
use Rattle.file_standing.specs.Steps.{with_fresh}
use Rattle.commits.specs.Commits.{IsCommitting}
use Rattle.file_updates.specs.Writing.{publishing_by}
use Rattle.client_sessions.specs.Points.{after_update}
use Rattle.durable_updates.specs.Carried.{IsCarried}
use Rattle.grid_file.proofs.Telling.{readings_tell}
use Rattle.durable_updates.proofs.Roots.{open-at}
use Rattle.durable_updates.proofs.Writings.{alone_stays, carried_after, claims_kept, claims_more, fault_carried, keeps_length, may_commit, stays_moments, undone_length}
use Rattle.durable_updates.proofs.carrying.put_through.Goals as goal

pub returns-in_err-write_update-clause-carried : goal.returns-in_err-write_update-clause-carried
returns-in_err-write_update-clause-carried g c = λ told m e w of.
    let f = c.args.file.now in
    let p = c.args.plan.now in
    let pinned = (readings_tell {K = g.row.K} g.D.Disk g.met.D.Disk.seen_now).pinned f m told (open-at g.D.Disk m f.books f.disk w) in
    let r = err_from_is_err_and c.from_residual.result c.from_residual.ensures.1 in
    let why = r.1 ∙ ap Err r.2 in
    fault_carried {K = g.row.K} {D = g.row.D.Denot} g.D.Disk f c.write_update.new.file m p.pages c.in_err-write_update.ensures.undone w e c.args.update.now p.note c.from_residual.result _ why (c.in_err-write_update.ensures.honest m.layout m.table c.args.update.now e pinned of)

pub returns-in_err-write_update-clause-changes : goal.returns-in_err-write_update-clause-changes
returns-in_err-write_update-clause-changes g c = undone_length {K = g.row.K} {D = g.row.D.Denot} g.D.Disk c.args.file.now c.write_update.new.file c.args.plan.now.pages c.in_err-write_update.ensures.undone

pub returns-clause-carried : goal.returns-clause-carried
returns-clause-carried g c = λ told m e w of.
    let f = c.args.file.now in
    let mid = c.write_update.new.file in
    let new = c.commit_plan.new.file in
    let p = c.args.plan.now in
    let u = c.args.update.now in
    let wrote = c.in_ok-write_update.ensures in
    let keeps = wrote.done in
    let pinned = (readings_tell {K = g.row.K} g.D.Disk g.met.D.Disk.seen_now).pinned f m told (open-at g.D.Disk m f.books f.disk w) in
    let may = may_commit {K = g.row.K} {D = g.row.D.Denot} g.D.Disk f mid m p.pages keeps w.kept w.file w.meets e u p refl c.args.room.now.first.value c.args.room.now.second.value c.state-state.ensures.sound w.session of c.requires.ready.sound
    c.spelled-update.ensures.lawful (wrote.written m.layout m.table u e pinned of) wrote.all in
    let carried = subst (λ (x : Update g.row.K). IsCommitting mid.books w.kept m e x (publishing_by p mid.claimed) may.0 → Meets g.D.Disk (with_fresh w.kept may.0) mid.disk → IsCarried {K = g.row.K} {D = g.row.D.Denot} {T = Unit} g.D.Disk m e x p.note c.commit_plan.result mid.disk new.books new.disk)
    c.spelled-update.ensures.same (c.commit_plan.ensures.carried w.kept m e may.0) may.1 may.2 in
    carried_after {K = g.row.K} {D = g.row.D.Denot} g.D.Disk m e u p.note c.commit_plan.result f.disk mid.disk new.disk new.books (keeps_length g.D.Disk f mid p.pages keeps).honest (stays_moments g.D.Disk f mid m p.pages keeps w.kept w.file w.meets) carried

pub returns-clause-alone : goal.returns-clause-alone
returns-clause-alone g c = λ told m e s w of.
    let f = c.args.file.now in
    let mid = c.write_update.new.file in
    let new = c.commit_plan.new.file in
    let p = c.args.plan.now in
    let u = c.args.update.now in
    let wrote = c.in_ok-write_update.ensures in
    let keeps = wrote.done in
    let pinned = (readings_tell {K = g.row.K} g.D.Disk g.met.D.Disk.seen_now).pinned f m told (record { kept = w.kept; file = w.file; meets = w.meets }) in
    let may = may_commit {K = g.row.K} {D = g.row.D.Denot} g.D.Disk f mid m p.pages keeps w.kept w.file w.meets e u p refl c.args.room.now.first.value c.args.room.now.second.value c.state-state.ensures.sound w.session of c.requires.ready.sound
    c.spelled-update.ensures.lawful (wrote.written m.layout m.table u e pinned of) wrote.all in
    subst (λ (x : Update g.row.K). IsCommitting mid.books w.kept m e x (publishing_by p mid.claimed) may.0 → IsAlone mid.books w.kept m s → Meets g.D.Disk (with_fresh w.kept may.0) mid.disk → OnOk c.commit_plan.result (IsOpenAlone g.D.Disk new.books (after_update m x p.note) (published e x p.note s) new.disk))
    c.spelled-update.ensures.same (c.commit_plan.ensures.alone w.kept m e may.0 s) may.1 (alone_stays g.D.Disk f mid m p.pages keeps w.kept s w.file w.alone) may.2

pub returns-clause-claims : goal.returns-clause-claims
returns-clause-claims g c =
    let f = c.args.file.now in
    let mid = c.write_update.new.file in
    let p = c.args.plan.now in
    let wrote = c.in_ok-write_update.ensures in
    claims_kept c.commit_plan.result (count_by is_claimed f.books.pages) (count_by is_claimed mid.books.pages) (count_by is_claimed c.commit_plan.new.file.books.pages) p.pages (length mid.claimed) (claims_more {K = g.row.K} {D = g.row.D.Denot} g.D.Disk f mid p.pages wrote.done c.requires.free) wrote.count c.commit_plan.ensures.claims

pub returns-clause-changes : goal.returns-clause-changes
returns-clause-changes g c =
    changes_then (λ x y step. step) (λ x y z one two. two ∙ one) (keeps_length {K = g.row.K} {D = g.row.D.Denot} g.D.Disk c.args.file.now c.write_update.new.file c.args.plan.now.pages c.in_ok-write_update.ensures.done) c.commit_plan.ensures.changes
