use Rattle.std.proofs.Common.{◌≤◌, ◌<◌, ◌∙◌, inl, inr, Some, None, length, refl, sym, ap, arith}
use Rattle.grid_types.specs.declared.update.Record.{Record}
use Rattle.grid_model.specs.Images.{bucket_on}
use Rattle.bucket_page.specs.OnPage.{record_at}
use Rattle.bucket_page.proofs.Finding.{none_on}
use Rattle.change_plans.proofs.Pages.{has-key, puts-plainly, cut-due}
use Rattle.change_plans.proofs.placing.put_in.Goals as goal

pub returns-then-count-capacity-clause-due : goal.returns-then-count-capacity-clause-due
returns-then-count-capacity-clause-due g c = λ capacity b s is.
    let absent = none_on g.row.K capacity c.args.count c.args.from.now b c.requires.few (omega (arith, c.requires.fits, c.requires.lawful)) c.fits-from s is c.args.row.now.key.numbers c.in-Err.at (c.in-Err.ensures.none capacity b s is) in
    ((λ _. (absent, c.if-count-capacity.true)), (λ _. refl))

pub returns-then-count-capacity-clause-cut : goal.returns-then-count-capacity-clause-cut
returns-then-count-capacity-clause-cut g c = λ shape L t e h same.
    let k = c.args.row.now.key.numbers in
    cut-due shape L t e c.args.from.now c.args.count k h ((returns-then-count-capacity-clause-due g c shape.capacity (bucket_on t e) h.spelled h.count).0 refl).0 (c.if-count-capacity.true ∙ sym same)

pub returns-in-Ok-clause-old : goal.returns-in-Ok-clause-old
returns-in-Ok-clause-old g c = λ capacity b s is.
    let at = c.in-Ok.ensures.found capacity b s is in
    let d : Record g.row.K = record_at g.row.K c.args.from.now 0 in
    let many : length b.rows ≤ 48 = omega (arith, is, c.requires.fits, c.requires.lawful) in
    ap Some (c.data_on.ensures g.row.K c.requires.few d capacity b s many at.inside) ∙ sym (at.value d)

pub returns-in-Ok-clause-spelled : goal.returns-in-Ok-clause-spelled
returns-in-Ok-clause-spelled g c = λ capacity b s is inside.
    let at = c.in-Ok.ensures.found capacity b s is in
    let many : length b.rows ≤ 48 = omega (arith, is, c.requires.fits, c.requires.lawful) in
    c.replace_into.ensures.spelled c.args.capacity capacity b s many at.inside (omega (arith, is, c.requires.fits)) at

pub returns-in-Ok-clause-due : goal.returns-in-Ok-clause-due
returns-in-Ok-clause-due g c = λ capacity b s is.
    let old = returns-in-Ok-clause-old g c capacity b s is in
    ((λ e. absurd cc), (λ absent. absurd (let gone = absent.0 in cc)))

pub returns-in-Ok-clause-plain : goal.returns-in-Ok-clause-plain
returns-in-Ok-clause-plain g c = λ shape L t e h same.
    let b = bucket_on t e in
    let k = c.args.row.now.key.numbers in
    puts-plainly shape L t e c.args.from.now c.args.count c.args.row.now c.args.capacity (Some c.data_on.result) c.replace_into.new.to h (returns-in-Ok-clause-old g c shape.capacity b h.spelled h.count) (inl refl)
    (returns-in-Ok-clause-spelled g c shape.capacity b h.spelled h.count (has-key shape L t e c.args.from.now c.args.count k h))

pub returns-else-count-capacity-clause-old : goal.returns-else-count-capacity-clause-old
returns-else-count-capacity-clause-old g c = λ capacity b s is.
    sym (none_on g.row.K capacity c.args.count c.args.from.now b c.requires.few (omega (arith, c.requires.fits, c.requires.lawful)) c.fits-from s is c.args.row.now.key.numbers c.in-Err.at (c.in-Err.ensures.none capacity b s is))

pub returns-else-count-capacity-clause-spelled : goal.returns-else-count-capacity-clause-spelled
returns-else-count-capacity-clause-spelled g c = λ capacity b s is inside.
    let room : c.args.count < c.args.capacity = omega (arith, c.requires.fits, c.if-count-capacity.false) in
    c.insert_into.ensures.spelled c.args.capacity room capacity b s is (c.in-Err.ensures.none capacity b s is) inside

pub returns-else-count-capacity-clause-plain : goal.returns-else-count-capacity-clause-plain
returns-else-count-capacity-clause-plain g c = λ shape L t e h same.
    let b = bucket_on t e in
    let k = c.args.row.now.key.numbers in
    let room : c.args.count < shape.capacity = omega (arith, c.requires.fits, c.if-count-capacity.false, same) in
    puts-plainly shape L t e c.args.from.now c.args.count c.args.row.now c.args.capacity None c.insert_into.new.to h (returns-else-count-capacity-clause-old g c shape.capacity b h.spelled h.count) (inr room)
    (returns-else-count-capacity-clause-spelled g c shape.capacity b h.spelled h.count (has-key shape L t e c.args.from.now c.args.count k h))
