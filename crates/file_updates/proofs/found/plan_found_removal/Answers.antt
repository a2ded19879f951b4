use Rattle.std.proofs.Common.{◌≡◌, ℕ, List, [], IfSome, sym, subst}
use Rattle.grid_types.specs.declared.layout_change.LayoutChange.TheVariants as note
use Rattle.grid_types.specs.declared.update.Update.TheVariants.{Remove}
use Rattle.bucket_page.specs.OnPage.{head_told}
use Rattle.change_plans.specs.Plans.{IsPageOf}
use Rattle.merge_paths.proofs.Found.{page-found}
use Rattle.file_updates.proofs.Planned.{other_buffer_if, ready_if}
use Rattle.file_updates.proofs.found.plan_found_removal.Goals as goal

pub returns-clause-plan : goal.returns-clause-plan
returns-clause-plan g c = λ shape L t e found.
    let k = c.args.key.now.numbers in
    let head = head_told g.row.K c.args.room.now.found.value in
    other_buffer_if shape L t (Remove c.args.key.now) e c.plan_removal.new.left [] c.args.room.now.second.value c.plan_removal.result note.Plain _ c.plan_removal.ensures.note
    (c.plan_removal.ensures.plan shape L t e head.count (subst (λ (bytes : List ℕ). IsPageOf shape L t k e bytes head.count) (sym c.deref.ensures) (page-found shape L t k e c.args.room.now.found.value head found)))

pub returns-clause-ready : goal.returns-clause-ready
returns-clause-ready g c = λ b are there.
    ready_if b (Remove c.args.key.now) c.plan_removal.result (head_told g.row.K c.args.room.now.found.value).number note.Plain (c.plan_removal.ensures.sound b.shape b.scales are.scales)
    (subst (λ (bytes : List ℕ). IfSome c.plan_removal.result (λ p. p.bucket ≡ (head_told g.row.K bytes).number)) c.deref.ensures c.plan_removal.ensures.number) c.plan_removal.ensures.note there _
