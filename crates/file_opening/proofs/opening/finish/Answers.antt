use Rattle.std.proofs.Common.{ℕ, inl, inr, refl, sym, subst, ◌∙◌}
use Rattle.std.specs.Prelude.{IfErr}
use Rattle.std.proofs.lemmas.Result.{err_from_is_err_and, IfErr-weaker}
use Rattle.grid_types.specs.declared.refusal.Refusal.TheVariants.{Damaged}
use Rattle.grid_types.specs.declared.shape.Shape.{Shape}
use Rattle.shadow_directory.specs.Calls.{IsFault}
use Rattle.file_roots.specs.Refusals.{MayRefuseClosing}
use Rattle.file_opening.specs.declared.redo_batches.Redo.{Redo}
use Rattle.file_opening.specs.declared.redo_batches.Redo.TheVariants.{Unfit}
use Rattle.file_opening.specs.Opening.{TellsUnfit}
use Rattle.file_opening.specs.Slots.{IsTheSlotOf}
use Rattle.file_opening.proofs.Reopening.{few-attributes, reads-keep, closing-fault, at-err}
use Rattle.file_opening.proofs.opening.finish.Goals as goal

pub slot_of-requires-clause-few : goal.slot_of-requires-clause-few
slot_of-requires-clause-few g c = few-attributes g.row.K c.args.state.now c.geometry-geometry.ensures.books

pub returns-in-All-clause-moments : goal.returns-in-All-clause-moments
returns-in-All-clause-moments g c = λ m whole redone. c.renew.ensures.moments m redone

pub returns-in_ok-page-in-Unfit-clause-changes : goal.returns-in_ok-page-in-Unfit-clause-changes
returns-in_ok-page-in-Unfit-clause-changes g c = reads-keep {D = g.row.D.Denot} c.in_ok-page-in-Unfit.ensures.same

pub returns-in-All-clause-told : goal.returns-in-All-clause-told
returns-in-All-clause-told g c = λ h.
    subst (λ (r : Redo). IfErr c.renew.result (TellsUnfit g.row.K c.args.state.now.shape (g.D.Disk.seen c.args.disk.now) c.args.state.now.session r)) (sym c.in-All.is)
    (IfErr-weaker c.renew.result MayRefuseClosing IsFault closing-fault c.renew.ensures.causes.no_other)

pub returns-in_err-page-in-Unfit-clause-told : goal.returns-in_err-page-in-Unfit-clause-told
returns-in_err-page-in-Unfit-clause-told g c = λ h.
    let told = err_from_is_err_and c.from_residual.result c.from_residual.ensures.1 in
    let fault : IsFault told.0 = subst IsFault (sym (told.2 ∙ c.in_err-page-in-Unfit.ensures.causes.no_other)) tt in
    subst (λ (r : Redo). IfErr c.from_residual.result (TellsUnfit g.row.K c.args.state.now.shape (g.D.Disk.seen c.args.disk.now) c.args.state.now.session r)) (sym c.in-Unfit.is)
    (at-err c.from_residual.result (TellsUnfit g.row.K c.args.state.now.shape (g.D.Disk.seen c.args.disk.now) c.args.state.now.session (Unfit c.in-Unfit.first)) told.0 told.1 (inl fault))

pub returns-in_ok-page-in-Unfit-clause-told : goal.returns-in_ok-page-in-Unfit-clause-told
returns-in_ok-page-in-Unfit-clause-told g c = λ h.
    let page = c.in_ok-page-in-Unfit.page in
    let image = g.D.Disk.seen c.args.disk.now in
    let found = subst (λ (n : ℕ). IsTheSlotOf g.row.K c.args.state.now.shape image n c.in-Unfit.first page) c.session.ensures
    (subst (λ (s : Shape). IsTheSlotOf g.row.K s image c.session.result c.in-Unfit.first page) c.geometry-geometry.ensures.shape (c.in_ok-page-in-Unfit.ensures.found h)) in
    subst (λ (r : Redo). TellsUnfit g.row.K c.args.state.now.shape image c.args.state.now.session r (Damaged page)) (sym c.in-Unfit.is) (inr (page, refl, found))
