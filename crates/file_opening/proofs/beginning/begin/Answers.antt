use Rattle.std.proofs.Common.{refl, sym, subst, ◌∙◌, inr, arith}
use Rattle.std.proofs.lemmas.Result.{err_from_is_err_and}
use Rattle.disk_trait.proofs.Calls.{changes_read, reads_then, reads_then_changes}
use Rattle.recovery.specs.Surveys.{found_in}
use Rattle.file_opening.specs.Refusals.{IsNoDamage}
use Rattle.file_opening.proofs.FoundRoot.{begins}
use Rattle.file_opening.proofs.Refusals.{no-damage}
use Rattle.file_opening.proofs.Reopening.{at-err}
use Rattle.file_opening.proofs.beginning.begin.Goals as goal

pub returns-in_default-clause-changes : goal.returns-in_default-clause-changes
returns-in_default-clause-changes g c = changes_read {D = g.row.D.Denot} c.in_ok-survey.ensures.same

pub returns-in_default-sync-clause-changes : goal.returns-in_default-sync-clause-changes
returns-in_default-sync-clause-changes g c = reads_then_changes {D = g.row.D.Denot} (λ x. refl) c.in_ok-survey.ensures.same c.in_default-sync.ensures.changes

pub returns-in_default-sync-clause-untouched : goal.returns-in_default-sync-clause-untouched
returns-in_default-sync-clause-untouched g c = reads_then {D = g.row.D.Denot} c.in_ok-survey.ensures.same c.in_default-sync.ensures.same

pub returns-clause-changes : goal.returns-clause-changes
returns-clause-changes g c = reads_then_changes {D = g.row.D.Denot} (λ x. refl) c.in_ok-survey.ensures.same c.in-Ok-sync.ensures.changes

pub returns-clause-begun : goal.returns-clause-begun
returns-clause-begun g c = λ h m has.
    let survey = c.in_ok-survey.ensures in
    let synced = c.in-Ok-sync.ensures in
    begins {K = g.row.K} (g.D.Disk.seen c.args.disk.now) c.in_ok-survey.survey (survey.found h) m has {D = g.row.D.Denot} g.D.Disk c.sync.new.disk c.in-Ok.state c.in_ok-survey.survey.taken
    c.in-Ok.ensures.state refl synced.durable (λ i. synced.changes.outside (survey.same.honest ∙ h) ∙ survey.same.seen h) (omega (arith, survey.lawful.size, survey.same.extent, synced.changes.extent))

pub returns-clause-sound : goal.returns-clause-sound
returns-clause-sound g c = λ h e bad.
    let survey = c.in_ok-survey.ensures in
    let is = survey.found h in
    c.survey_law.ensures.answer.found (g.D.Disk.seen c.args.disk.now) (found_in c.in_ok-survey.survey is.gates is.batches) c.in_ok-survey.survey.front e is.found bad

pub returns-in_err-survey-clause-standing : goal.returns-in_err-survey-clause-standing
returns-in_err-survey-clause-standing g c = λ h m has.
    let none = no-damage g.row.K c.survey_law.ensures.answer (g.D.Disk.seen c.args.disk.now) m c.in_err-survey.field-0.0 has (inr (c.in_err-survey.ensures.refused h)) in
    let told = err_from_is_err_and c.from_residual.result c.from_residual.ensures.1 in
    at-err c.from_residual.result IsNoDamage told.0 told.1 (subst IsNoDamage (sym told.2) none)
