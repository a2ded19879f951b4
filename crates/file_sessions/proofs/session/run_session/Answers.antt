use Rattle.std.proofs.Common.{◌∙◌, inl, refl}
use Rattle.std.proofs.lemmas.Result.{err_from_is_err_and}
use Rattle.disk_trait.proofs.Calls.{changes_then, changes_then_reads}
use Rattle.disk_trait.proofs.Moments.{started}
use Rattle.file_sessions.proofs.Working.{is_session, keeps_length_then}
use Rattle.file_sessions.proofs.session.run_session.Goals as goal

pub returns-in-Err-clause-moments : goal.returns-in-Err-clause-moments
returns-in-Err-clause-moments g c = λ h m has. started g.D.Disk.moment g.D.Disk.left_since c.args.disk.value _ (λ image left. inl (g.met.D.Disk.only_now c.args.disk.value image h left))

pub returns-in_err-store-clause-standing : goal.returns-in_err-store-clause-standing
returns-in_err-store-clause-standing g c = let p = err_from_is_err_and c.from_residual.result c.from_residual.ensures.1 in rw (p.1, p.2) (λ h m has. c.in_err-store.ensures.standing h m has)

pub returns-in_err-store-clause-moments : goal.returns-in_err-store-clause-moments
returns-in_err-store-clause-moments g c = let p = err_from_is_err_and c.from_residual.result c.from_residual.ensures.1 in rw (p.1, p.2) (λ h m has. c.in_err-store.ensures.moments h m has)

pub returns-in_err-store-clause-untouched : goal.returns-in_err-store-clause-untouched
returns-in_err-store-clause-untouched g c = let p = err_from_is_err_and c.from_residual.result c.from_residual.ensures.1 in rw (p.1, p.2) (λ h. c.in_err-store.ensures.untouched h)

pub returns-clause-session : goal.returns-clause-session
returns-clause-session g c = λ m s.
    let store = c.in_ok-store.store in
    let worked = c.answer_all.new.store in
    let counted = c.stat-records.new.self in
    let opening = c.in_ok-store.ensures in
    let told = opening.changes.honest ∙ s.told in
    let told_worked = c.answer_all.ensures.changes.honest ∙ told in
    let told_counted = c.stat-records.ensures.same.disk.honest ∙ told_worked in
    rw (c.close-disk.ensures.disk)
    (is_session g.D.Disk m c.args.lines.now c.answer_all.new.replies.items c.args.disk.value store worked counted c.close-disk.result.1 c.stat-records.result.value.records
    c.store_law.ensures c.sessions_law.ensures c.session_law.ensures s (opening.reopened s.told m s.leaves.read) (opening.moments s.told m s.leaves.read) told told_worked told_counted
    (c.answer_all.ensures.runs told) (c.answer_all.ensures.lone told) c.stat-records.result (c.stat-records.ensures.answers told_worked) c.close-disk.ensures.front refl)

pub returns-clause-changes : goal.returns-clause-changes
returns-clause-changes g c =
    rw (c.close-disk.ensures.disk)
    (changes_then_reads (changes_then (λ x y e. e) keeps_length_then c.in_ok-store.ensures.changes c.answer_all.ensures.changes) c.stat-records.ensures.same.disk)
