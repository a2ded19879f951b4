use Rattle.std.proofs.Common.{◌≡◌, ◌∙◌, ℕ, List, [], IfSome, sym, subst}
use Rattle.grid_types.specs.declared.layout_change.LayoutChange.TheVariants as note
use Rattle.grid_types.specs.declared.shape.Shape.{Shape}
use Rattle.grid_types.specs.declared.update.Update.TheVariants.{Remove}
use Rattle.bucket_page.specs.OnPage.{head_told}
use Rattle.change_plans.specs.Plans.{IsPageOf, IsPageBeside}
use Rattle.history_pages.specs.PageLaws.{IsChange}
use Rattle.merge_paths.proofs.Found.{page-found}
use Rattle.update_plans.specs.Plans.{IsPlanOf, IsSoundPlan}
use Rattle.file_updates.proofs.Planned.{planned_noted, merge_joins, noted_of, ready_if}
use Rattle.file_updates.proofs.found.plan_found_merge.Goals as goal

pub returns-clause-planned : goal.returns-clause-planned
returns-clause-planned g c = λ L t e b scales found beside change.
    let k = c.args.key.now.numbers in
    let s = c.args.state.now.shape in
    let made = c.geometry.result.shape in
    let same : made ≡ s = c.geometry.ensures.shape in
    let head = head_told g.row.K c.args.room.now.found.value in
    let page : IsPageOf made L t k e c.deref.result.now head.count =
    subst (λ (z : Shape × List ℕ). IsPageOf z.0 L t k e z.1 head.count) (λ i. (sym same i, sym c.deref.ensures i)) (page-found s L t k e c.args.room.now.found.value head found) in
    let other : IsPageBeside made L t e (c.args.with, b) c.deref-2.result.now = subst (λ (z : Shape × List ℕ). IsPageBeside z.0 L t e (c.args.with, b) z.1) (λ i. (sym same i, sym c.deref-2.ensures i)) beside in
    let changes : IsChange made L t (Remove c.args.key.now) (note.Merge c.args.with) e = subst (λ (x : Shape). IsChange x L t (Remove c.args.key.now) (note.Merge c.args.with) e) (sym same) change in
    let of = c.plan_merge-plan.ensures.plan L t e (c.args.with, b) head.count page other (c.scales-scales.ensures.scales ∙ scales) changes in
    planned_noted s L t (Remove c.args.key.now) e c.plan_merge-plan.new.joined [] c.args.room.now.second.value c.plan_merge-plan.result c.as_noted.result (note.Merge c.args.with) _
    (c.plan_merge-plan.ensures.exactly L t e (c.args.with, b) head.count page other ∙ merge_joins made L t c.args.key.now e c.args.with changes b beside.there)
    (c.plan_merge-plan.ensures.note L t e (c.args.with, b) other)
    (subst (λ (x : Shape). IfSome c.plan_merge-plan.result (IsPlanOf x L t (Remove c.args.key.now) e c.plan_merge-plan.new.joined [])) same of)
    c.as_noted.ensures.same

pub returns-clause-ready : goal.returns-clause-ready
returns-clause-ready g c = λ there has differ.
    let u = Remove c.args.key.now in
    let sound : IfSome c.plan_merge-plan.result (IsSoundPlan c.args.state.now.shape c.args.state.now.scales u) =
    subst (λ (z : Shape × List (List ℕ)). IfSome c.plan_merge-plan.result (IsSoundPlan z.0 z.1 u)) (λ i. (c.geometry.ensures.shape i, c.scales-scales.ensures.scales i)) c.plan_merge-plan.ensures.sound in
    let number = subst (λ (bytes : List ℕ). IfSome c.plan_merge-plan.result (λ p. p.bucket ≡ (head_told g.row.K bytes).number)) c.deref.ensures c.plan_merge-plan.ensures.number in
    ready_if c.args.state.now u c.as_noted.result (head_told g.row.K c.args.room.now.found.value).number (note.Merge c.args.with)
    (noted_of c.plan_merge-plan.result c.as_noted.result (IsSoundPlan c.args.state.now.shape c.args.state.now.scales u) c.as_noted.ensures.from sound)
    (noted_of c.plan_merge-plan.result c.as_noted.result (λ p. p.bucket ≡ (head_told g.row.K c.args.room.now.found.value).number) c.as_noted.ensures.from number)
    c.as_noted.ensures.note there (differ, has)
