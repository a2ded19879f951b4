use Rattle.std.proofs.Common.{rules, ◌≡◌, ◌&&◌, Some, cond, nat_lt, is_some, refl, sym, ap, ◌∙◌, arith}
use Rattle.grid_types.specs.declared.layout_change.LayoutChange.TheVariants as note
use Rattle.grid_model.specs.Images.{bucket_on}
use Rattle.grid_model.specs.Neighbours.{can_join}
use Rattle.grid_model.specs.Tables.{get, without}
use Rattle.linear_scales.specs.Limited.{scales_of}
use Rattle.change_plans.proofs.Buckets.{held}
use Rattle.change_plans.proofs.Pages.{tells-data}
use Rattle.update_plans.proofs.Heads.{few-records, at-head, head-number, head-region}
use Rattle.update_plans.proofs.Merges.{vanishing-is, merge-plan, merge-kind, merge-sound}
use Rattle.update_plans.proofs.Scales.{are-dims}
use Rattle.update_plans.proofs.merging.plan_merge.Goals as goal

pub judge-requires : goal.judge-requires
judge-requires g c = (search rules, (c.requires.few, few-records c.args.shape.now c.requires.lawful))

pub judge-requires-2 : goal.judge-requires-2
judge-requires-2 g c = (search rules, (c.requires.few, few-records c.args.shape.now c.requires.lawful))

pub get_on-requires : goal.get_on-requires
get_on-requires g c = (search rules, (omega (arith, c.in-Some.ensures.count, few-records c.args.shape.now c.requires.lawful), c.requires.few))

pub join_of-requires : goal.join_of-requires
join_of-requires g c = (search rules, (c.requires.few, few-records c.args.shape.now c.requires.lawful))

pub pages_of-pages-requires : goal.pages_of-pages-requires
pages_of-pages-requires g c = (search rules, (search rules, (omega arith, (are-dims g.row.K c.args.shape.now (scales_of c.args.scales.now) c.requires.lawful c.requires.scales, c.change_of_merge-directory.ensures.fits))))

pub returns-in_default-get_on-clause-exactly : goal.returns-in_default-get_on-clause-exactly
returns-in_default-get_on-clause-exactly g c = λ L t e f n h r.
    let k = c.args.key.now.numbers in
    let shape = c.args.shape.now in
    let there = at-head shape L t k e c.args.from.now n c.in-Some.head.count c.requires.few c.fits-from c.in-Some.ensures.records h in
    ap (λ o. is_some o && can_join shape (without t k) e.1.region f.1.region) (c.in_default-get_on.ensures shape.capacity (bucket_on t e) there.spelled there.count ∙ tells-data shape L t e c.args.from.now c.in-Some.head.count k there)

pub returns-in_default-join_of-clause-exactly : goal.returns-in_default-join_of-clause-exactly
returns-in_default-join_of-clause-exactly g c = λ L t e f n h r.
    let k = c.args.key.now.numbers in
    let shape = c.args.shape.now in
    let there = at-head shape L t k e c.args.from.now n c.in-Some.head.count c.requires.few c.fits-from c.in-Some.ensures.records h in
    c.in_default-join_of.ensures.joins shape L t e f n h r refl
    ∙ ap (λ o. is_some o && can_join shape (without t k) e.1.region f.1.region) (c.in-Some-get_on.ensures shape.capacity (bucket_on t e) there.spelled there.count ∙ tells-data shape L t e c.args.from.now c.in-Some.head.count k there)

pub returns-clause-exactly : goal.returns-clause-exactly
returns-clause-exactly g c = λ L t e f n h r.
    let k = c.args.key.now.numbers in
    let shape = c.args.shape.now in
    let there = at-head shape L t k e c.args.from.now n c.in-Some.head.count c.requires.few c.fits-from c.in-Some.ensures.records h in
    c.in-Some-join_of.ensures.joins shape L t e f n h r refl
    ∙ ap (λ o. is_some o && can_join shape (without t k) e.1.region f.1.region) (c.in-Some-get_on.ensures shape.capacity (bucket_on t e) there.spelled there.count ∙ tells-data shape L t e c.args.from.now c.in-Some.head.count k there)

pub returns-clause-note : goal.returns-clause-note
returns-clause-note g c = λ L t e f r. ap note.Merge (head-number c.args.shape.now t f c.args.other.now c.requires.few c.requires.lawful c.fits-other r.spelled c.in-Some-judge.beside c.in-Some-judge.ensures.head)

pub returns-clause-sound : goal.returns-clause-sound
returns-clause-sound g c =
    let made = c.change_of_merge-directory in
    merge-sound c.args.shape.now (scales_of c.args.scales.now) c.args.key.now c.in-Some.head.number c.in-Some-judge.beside.number made.result c.in-Some-get_on.old c.pages_of-pages.result c.requires.scales made.ensures.fits
    (merge-kind (scales_of c.args.scales.now) c.vanishing.result c.in-Some-join_of.survivor c.in-Some-judge.beside.number made.result made.ensures.change) c.pages_of-pages.ensures.value

pub returns-clause-plan : goal.returns-clause-plan
returns-clause-plan g c = λ L t e f n h r same change.
    let k = c.args.key.now.numbers in
    let shape = c.args.shape.now in
    let head = c.in-Some.head in
    let beside = c.in-Some-judge.beside in
    let there = at-head shape L t k e c.args.from.now n head.count c.requires.few c.fits-from c.in-Some.ensures.records h in
    let got : Some c.in-Some-get_on.old ≡ get t k = c.in-Some-get_on.ensures shape.capacity (bucket_on t e) there.spelled there.count ∙ tells-data shape L t e c.args.from.now head.count k there in
    let first = head-number shape t e c.args.from.now c.requires.few c.requires.lawful c.fits-from h.spelled head c.in-Some.ensures.head in
    let second = head-number shape t f c.args.other.now c.requires.few c.requires.lawful c.fits-other r.spelled beside c.in-Some-judge.ensures.head in
    let here = head-region shape t e c.args.from.now c.requires.few c.requires.lawful c.fits-from h.spelled head c.in-Some.ensures.head in
    let next = head-region shape t f c.args.other.now c.requires.few c.requires.lawful c.fits-other r.spelled beside c.in-Some-judge.ensures.head in
    let low = c.in-Some-join_of.ensures.page shape L t e f n h r refl in
    let gone = c.vanishing.ensures ∙ (λ i. cond (nat_lt (second i) (first i)) (here i) (next i)) ∙ vanishing-is L e f (held shape L t k e h.stands h.holds).0 r.there in
    merge-plan shape L t c.args.key.now e f head.number c.change_of_merge-directory.result c.in-Some-get_on.old c.join_of.new.to c.pages_of-pages.result c.in-Some-join_of.survivor (scales_of c.args.scales.now) beside.number second change first same
    (c.change_of_merge-directory.ensures.change L e f.0 (sym same) gone low.number) c.pages_of-pages.ensures.value got low
