use Rattle.std.proofs.Common.{ap, is_some}
use Rattle.grid_model.specs.Images.{bucket_on}
use Rattle.update_plans.proofs.Heads.{spelled-widely, at-head, head-number}
use Rattle.update_plans.proofs.Removals.{removal-plan, removal-sound}
use Rattle.update_plans.proofs.removing.plan_removal.Goals as goal

pub returns-in_default-clause-exactly : goal.returns-in_default-clause-exactly
returns-in_default-clause-exactly g c = λ shape L t e n h. absurd (c.in_default.ensures.none (bucket_on t e) (spelled-widely shape c.args.from.now (bucket_on t e) h.stands.lawful h.spelled))

pub returns-in_default-take_from-clause-exactly : goal.returns-in_default-take_from-clause-exactly
returns-in_default-take_from-clause-exactly g c = λ shape L t e n h.
    ap is_some (c.in_default-take_from.ensures.answer shape L t e (at-head shape L t c.args.key.now.numbers e c.args.from.now n c.in-Some.head.count c.requires.few c.fits-from c.in-Some.ensures.records h))

pub returns-clause-exactly : goal.returns-clause-exactly
returns-clause-exactly g c = λ shape L t e n h.
    ap is_some (c.in-Some-take_from.ensures.answer shape L t e (at-head shape L t c.args.key.now.numbers e c.args.from.now n c.in-Some.head.count c.requires.few c.fits-from c.in-Some.ensures.records h))

pub returns-clause-plan : goal.returns-clause-plan
returns-clause-plan g c = λ shape L t e n h.
    let there = at-head shape L t c.args.key.now.numbers e c.args.from.now n c.in-Some.head.count c.requires.few c.fits-from c.in-Some.ensures.records h in
    let took = c.in-Some-take_from.ensures in
    removal-plan shape L t c.args.key.now e c.args.from.now c.in-Some.head.count c.in-Some.head.number c.in-Some-take_from.old c.take_from.new.to there
    (head-number shape t e c.args.from.now c.requires.few h.stands.lawful c.fits-from h.spelled c.in-Some.head c.in-Some.ensures.head) (took.answer shape L t e there) (took.plain shape L t e there)

pub returns-clause-sound : goal.returns-clause-sound
returns-clause-sound g c = λ shape scales s. removal-sound shape scales c.args.key.now c.in-Some.head.number c.in-Some-take_from.old s
