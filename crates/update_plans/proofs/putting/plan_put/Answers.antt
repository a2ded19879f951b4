use Rattle.std.proofs.Common.{rules, Some, refl, sym, ap, subst, ◌∙◌}
use Rattle.grid_types.specs.declared.update.Update.TheVariants.{Put}
use Rattle.grid_model.specs.Images.{bucket_on}
use Rattle.linear_scales.specs.Limited.{scales_of}
use Rattle.change_plans.proofs.Pages.{has-key}
use Rattle.update_plans.specs.declared.plan.Plan.{Plan}
use Rattle.update_plans.specs.declared.putting.Planned.{Planned}
use Rattle.update_plans.specs.Plans.{IsPlanOf, IsSoundPlan}
use Rattle.update_plans.specs.Putting.{note_planned}
use Rattle.update_plans.proofs.Heads.{few-records, at-head, head-number, not-here}
use Rattle.update_plans.proofs.Puts.{plain-plan, plain-sound, by-layout}
use Rattle.update_plans.proofs.Scales.{are-dims}
use Rattle.update_plans.proofs.putting.plan_put.Goals as goal

pub judge-requires : goal.judge-requires
judge-requires g c = (search rules, (c.requires.few, few-records c.args.shape.now c.requires.lawful))

pub returns-then-not-contains-clause-bucket : goal.returns-then-not-contains-clause-bucket
returns-then-not-contains-clause-bucket g c =
    (λ _. not-here c.args.shape.now.capacity c.args.from.now c.args.row.now.key.numbers c.in-Some.head c.contains.result c.requires.few (few-records c.args.shape.now c.requires.lawful) c.fits-from c.in-Some.ensures.head c.contains.ensures.value c.if-not-contains.true, λ _. refl)

pub returns-then-not-contains-clause-note : goal.returns-then-not-contains-clause-note
returns-then-not-contains-clause-note g c = λ L t e n h same number.
    absurd (not-here c.args.shape.now.capacity c.args.from.now c.args.row.now.key.numbers c.in-Some.head c.contains.result c.requires.few (few-records c.args.shape.now c.requires.lawful) c.fits-from c.in-Some.ensures.head c.contains.ensures.value c.if-not-contains.true
    (bucket_on t e) h.spelled (has-key c.args.shape.now L t e c.args.from.now n c.args.row.now.key.numbers h))

pub put_in-requires : goal.put_in-requires
put_in-requires g c = (search rules, (c.requires.few, (few-records c.args.shape.now c.requires.lawful, c.in-Some.ensures.count)))

pub no_cut-requires : goal.no_cut-requires
no_cut-requires g c = (search rules, (search rules, (c.requires.few, are-dims g.row.K c.args.shape.now (scales_of c.args.scales.now) c.requires.lawful c.requires.scales)))

pub returns-in-Done-clause-note : goal.returns-in-Done-clause-note
returns-in-Done-clause-note g c = λ L t e n h same number.
    let shape = c.args.shape.now in
    let there = at-head shape L t c.args.row.now.key.numbers e c.args.from.now n c.in-Some.head.count c.requires.few c.fits-from c.in-Some.ensures.records h in
    ap (λ (p : Plan g.row.K). Some p.note) c.plain_plan.ensures ∙ sym (c.in-Done.ensures.plain shape L t e there refl).noted

pub returns-in-Done-clause-plan : goal.returns-in-Done-clause-plan
returns-in-Done-clause-plan g c = λ L t e n h same number.
    let shape = c.args.shape.now in
    let there = at-head shape L t c.args.row.now.key.numbers e c.args.from.now n c.in-Some.head.count c.requires.few c.fits-from c.in-Some.ensures.records h in
    let first = head-number shape t e c.args.from.now c.requires.few c.requires.lawful c.fits-from h.spelled c.in-Some.head c.in-Some.ensures.head in
    subst (λ (p : Plan g.row.K). IsPlanOf shape L t (Put c.args.row.now) e c.put_in.new.to c.args.second.now p) (sym c.plain_plan.ensures)
    (plain-plan shape L t c.args.row.now e c.args.from.now c.in-Some.head.count c.in-Some.head.number c.in-Done.old c.put_in.new.to c.args.second.now there first (c.in-Done.ensures.plain shape L t e there refl))

pub returns-in-Done-clause-sound : goal.returns-in-Done-clause-sound
returns-in-Done-clause-sound g c =
    subst (λ (p : Plan g.row.K). IsSoundPlan c.args.shape.now (scales_of c.args.scales.now) (Put c.args.row.now) p) (sym c.plain_plan.ensures)
    (plain-sound c.args.shape.now (scales_of c.args.scales.now) c.args.row.now c.in-Some.head.number c.in-Done.old c.requires.scales)

pub returns-in-Some-plan_cut-clause-note : goal.returns-in-Some-plan_cut-clause-note
returns-in-Some-plan_cut-clause-note g c = λ L t e n h same number.
    let shape = c.args.shape.now in
    let there = at-head shape L t c.args.row.now.key.numbers e c.args.from.now n c.in-Some.head.count c.requires.few c.fits-from c.in-Some.ensures.records h in
    sym (c.in-Some-plan_cut.ensures.note L t e c.in-Some.head.count (c.in-CutDue.ensures.cut shape L t e there refl) (by-layout L (scales_of c.args.scales.now) c.args.unused same number))

pub returns-in-Some-plan_cut-clause-plan : goal.returns-in-Some-plan_cut-clause-plan
returns-in-Some-plan_cut-clause-plan g c = λ L t e n h same number.
    let shape = c.args.shape.now in
    let there = at-head shape L t c.args.row.now.key.numbers e c.args.from.now n c.in-Some.head.count c.requires.few c.fits-from c.in-Some.ensures.records h in
    c.in-Some-plan_cut.ensures.plan L t e c.in-Some.head.count (c.in-CutDue.ensures.cut shape L t e there refl) (by-layout L (scales_of c.args.scales.now) c.args.unused same number)

pub returns-in-None-clause-note : goal.returns-in-None-clause-note
returns-in-None-clause-note g c = λ L t e n h same number.
    let shape = c.args.shape.now in
    let there = at-head shape L t c.args.row.now.key.numbers e c.args.from.now n c.in-Some.head.count c.requires.few c.fits-from c.in-Some.ensures.records h in
    ap (λ (x : Planned g.row.K). note_planned x) c.no_cut.ensures
    ∙ sym (c.in-None.ensures.note L t e c.in-Some.head.count (c.in-CutDue.ensures.cut shape L t e there refl) (by-layout L (scales_of c.args.scales.now) c.args.unused same number))
