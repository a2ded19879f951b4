use Rattle.std.proofs.Common.{rules, ◌≤◌, None, refl, ◌∙◌, ap, sym, arith}
use Rattle.std.proofs.lemmas.Result.{err_from_is_err_and}
use Rattle.grid_types.specs.declared.request.Request.TheVariants as ask
use Rattle.grid_types.specs.declared.request.Reply.TheVariants as told
use Rattle.file_books.specs.Books.{Books}
use Rattle.grid_store.proofs.Changed.{stopped-answered, root-refuses, rooted-answered, rooted-alone}
use Rattle.grid_store.proofs.store.Store.checkpoint.Goals as goal

pub returns-in-Some-clause-answers : goal.returns-in-Some-clause-answers
returns-in-Some-clause-answers g c = λ h p at.
    stopped-answered {K = g.row.K} {D = g.row.D.Denot} g.D.Disk c.args.self.now p c.in-Some.count c.self.inside.opened ask.Checkpoint (search (rules, c.self.view_is, c.in-Some.is)) at
    (λ some. (refl, some)) (λ image told left. g.met.D.Disk.only_now c.args.self.now.file.disk image told left)

pub step_root-requires : goal.step_root-requires
step_root-requires g c = (omega arith, (omega arith, (c.self.invariant.next, c.self.invariant.unclaimed)))

pub returns-in_err-step_root-clause-answers : goal.returns-in_err-step_root-clause-answers
returns-in_err-step_root-clause-answers g c =
    let p = err_from_is_err_and c.from_residual.result c.from_residual.ensures.1 in
    rw (p.1, p.2) (λ h.
    rooted-answered {K = g.row.K} {D = g.row.D.Denot} g.D.Disk _ c.self.view_is c.in_default.is refl (told.Refused _) c.step_root.ensures.moments c.step_root.ensures.stays
    (λ m at. (refl, root-refuses {K = g.row.K} (record { at = m; beyond = None }) c.self.inside.file.books _ c.in_err-step_root.ensures.causes.no_other)))

pub returns-clause-answers : goal.returns-clause-answers
returns-clause-answers g c = λ h.
    let front = c.front.ensures ∙ ap (λ (b : Books). b.front) c.state.ensures.books ∙ c.step_root.ensures.reading.front in
    rooted-answered {K = g.row.K} {D = g.row.D.Denot} g.D.Disk _ c.self.view_is c.in_default.is refl (told.Rooted c.front.result) c.step_root.ensures.moments c.step_root.ensures.stays
    (λ m at. (refl, front ∙ sym at, refl))

pub returns-clause-lone : goal.returns-clause-lone
returns-clause-lone g c = λ h.
    rooted-alone {K = g.row.K} {D = g.row.D.Denot} g.D.Disk c.self.view_is c.front.result refl (c.front.ensures ∙ ap (λ (b : Books). b.front) c.state.ensures.books ∙ c.step_root.ensures.reading.front) c.step_root.ensures.claims c.in_ok-step_root.ensures.alone
