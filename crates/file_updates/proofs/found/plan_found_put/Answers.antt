use Rattle.std.proofs.Common.{arith, ◌≡◌, ◌∙◌, ℕ, List, Some, None, refl, sym, ap, subst}
use Rattle.grid_types.specs.declared.shape.Shape.{Shape}
use Rattle.grid_types.specs.declared.update.Update.TheVariants.{Put}
use Rattle.grid_model.specs.Notes.{put_note}
use Rattle.bucket_page.specs.OnPage.{head_told}
use Rattle.change_plans.specs.Plans.{IsPageOf}
use Rattle.merge_paths.proofs.Found.{page-found}
use Rattle.file_books.specs.Books.{Books, OwnersHavePages}
use Rattle.grid_file.specs.Files.{OpenFile}
use Rattle.update_plans.specs.Plans.{IsPlanOf, IsSoundPlan}
use Rattle.file_updates.proofs.Numbers.{among_books, unused_is}
use Rattle.file_updates.proofs.Planned.{put_fits, put_other, ready_by}
use Rattle.file_updates.proofs.found.plan_found_put.Goals as goal

pub returns-in-Plan-clause-plan : goal.returns-in-Plan-clause-plan
returns-in-Plan-clause-plan g c = λ L t e pin found.
    let f = c.args.file.now in
    let k = c.args.row.now.key.numbers in
    let head = head_told g.row.K c.args.room.now.found.value in
    let books : c.state-state.result.now ≡ f.books = c.state-state.ensures.books ∙ ap (λ (x : OpenFile g.row.D.Denot). x.books) c.least_unused-unused.ensures.same in
    let same : c.geometry.result.shape ≡ f.books.shape = c.geometry.ensures.shape ∙ ap (λ (b : Books). b.shape) books in
    let page : IsPageOf {K = g.row.K} c.geometry.result.shape L t k e c.deref.result.now head.count =
    subst (λ (z : Shape × List ℕ). IsPageOf {K = g.row.K} z.0 L t k e z.1 head.count) (λ i. (sym same i, sym c.deref.ensures i)) (page-found {K = g.row.K} f.books.shape L t k e c.args.room.now.found.value head found) in
    subst (λ (x : Shape). IsPlanOf {K = g.row.K} x L t (Put c.args.row.now) e c.plan_put.new.first c.plan_put.new.second c.in-Plan.plan) same
    (c.in-Plan.ensures.plan L t e head.count page (c.scales.ensures.scales ∙ ap (λ (b : Books). b.scales) books ∙ pin.scales_are)
    (unused_is {K = g.row.K} g.D.Disk f (subst (λ (b : Books). OwnersHavePages b) books c.geometry.ensures.books.owners) L t pin c.least_unused-unused.result c.least_unused-unused.ensures.least))

pub returns-in-Plan-clause-note : goal.returns-in-Plan-clause-note
returns-in-Plan-clause-note g c = λ L t e pin found.
    let f = c.args.file.now in
    let k = c.args.row.now.key.numbers in
    let head = head_told g.row.K c.args.room.now.found.value in
    let books : c.state-state.result.now ≡ f.books = c.state-state.ensures.books ∙ ap (λ (x : OpenFile g.row.D.Denot). x.books) c.least_unused-unused.ensures.same in
    let same : c.geometry.result.shape ≡ f.books.shape = c.geometry.ensures.shape ∙ ap (λ (b : Books). b.shape) books in
    let page : IsPageOf {K = g.row.K} c.geometry.result.shape L t k e c.deref.result.now head.count =
    subst (λ (z : Shape × List ℕ). IsPageOf {K = g.row.K} z.0 L t k e z.1 head.count) (λ i. (sym same i, sym c.deref.ensures i)) (page-found {K = g.row.K} f.books.shape L t k e c.args.room.now.found.value head found) in
    subst (λ (x : Shape). put_note {K = g.row.K} x L t k ≡ Some c.in-Plan.plan.note) same
    (sym (c.in-Plan.ensures.note L t e head.count page (c.scales.ensures.scales ∙ ap (λ (b : Books). b.scales) books ∙ pin.scales_are)
    (unused_is {K = g.row.K} g.D.Disk f (subst (λ (b : Books). OwnersHavePages b) books c.geometry.ensures.books.owners) L t pin c.least_unused-unused.result c.least_unused-unused.ensures.least)))

pub returns-in-NoCut-clause-refused : goal.returns-in-NoCut-clause-refused
returns-in-NoCut-clause-refused g c = λ L t e pin found.
    let f = c.args.file.now in
    let k = c.args.row.now.key.numbers in
    let head = head_told g.row.K c.args.room.now.found.value in
    let books : c.state-state.result.now ≡ f.books = c.state-state.ensures.books ∙ ap (λ (x : OpenFile g.row.D.Denot). x.books) c.least_unused-unused.ensures.same in
    let same : c.geometry.result.shape ≡ f.books.shape = c.geometry.ensures.shape ∙ ap (λ (b : Books). b.shape) books in
    let page : IsPageOf {K = g.row.K} c.geometry.result.shape L t k e c.deref.result.now head.count =
    subst (λ (z : Shape × List ℕ). IsPageOf {K = g.row.K} z.0 L t k e z.1 head.count) (λ i. (sym same i, sym c.deref.ensures i)) (page-found {K = g.row.K} f.books.shape L t k e c.args.room.now.found.value head found) in
    subst (λ (x : Shape). put_note {K = g.row.K} x L t k ≡ None) same
    (sym (c.in-NoCut.ensures.note L t e head.count page (c.scales.ensures.scales ∙ ap (λ (b : Books). b.scales) books ∙ pin.scales_are)
    (unused_is {K = g.row.K} g.D.Disk f (subst (λ (b : Books). OwnersHavePages b) books c.geometry.ensures.books.owners) L t pin c.least_unused-unused.result c.least_unused-unused.ensures.least)))

pub returns-in-Plan-clause-ready : goal.returns-in-Plan-clause-ready
returns-in-Plan-clause-ready g c =
    let f = c.args.file.now in
    let head = head_told g.row.K c.args.room.now.found.value in
    let books : c.state-state.result.now ≡ f.books = c.state-state.ensures.books ∙ ap (λ (x : OpenFile g.row.D.Denot). x.books) c.least_unused-unused.ensures.same in
    let owners : OwnersHavePages f.books = subst (λ (b : Books). OwnersHavePages b) books c.geometry.ensures.books.owners in
    let sound : IsSoundPlan {K = g.row.K} f.books.shape f.books.scales (Put c.args.row.now) c.in-Plan.plan =
    subst (λ (z : Shape × List (List ℕ)). IsSoundPlan {K = g.row.K} z.0 z.1 (Put c.args.row.now) c.in-Plan.plan)
    (λ i. ((c.geometry.ensures.shape ∙ ap (λ (b : Books). b.shape) books) i, (c.scales.ensures.scales ∙ ap (λ (b : Books). b.scales) books) i)) c.in-Plan.ensures.sound in
    ready_by {K = g.row.K} f.books (Put c.args.row.now) c.in-Plan.plan head.number c.in-Plan.plan.note sound
    (c.in-Plan.ensures.number ∙ ap (λ (bytes : List ℕ). (head_told g.row.K bytes).number) c.deref.ensures) refl
    (sym (among_books f.books owners head.number) ∙ c.requires.found.among)
    (put_other g.row.K f.books head.number c.least_unused-unused.result c.in-Plan.plan.note c.least_unused-unused.ensures.least c.in-Plan.ensures.right)

pub returns-in-Plan-clause-fits : goal.returns-in-Plan-clause-fits
returns-in-Plan-clause-fits g c = put_fits c.args.row.now c.least_unused-unused.result c.in-Plan.plan.note (omega arith) c.in-Plan.ensures.right
