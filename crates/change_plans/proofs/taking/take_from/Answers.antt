use Rattle.std.proofs.Common.{◌≤◌, ◌∙◌, Some, length, sym, ap, arith}
use Rattle.grid_types.specs.declared.update.Record.{Record}
use Rattle.grid_model.specs.Images.{bucket_on}
use Rattle.bucket_page.specs.OnPage.{record_at}
use Rattle.bucket_page.proofs.Finding.{none_on}
use Rattle.change_plans.proofs.Pages.{tells-data, removes-plainly}
use Rattle.change_plans.proofs.taking.take_from.Goals as goal

pub returns-in-Ok-clause-old : goal.returns-in-Ok-clause-old
returns-in-Ok-clause-old g c = λ capacity b s is.
    let at = c.in-Ok.ensures.found capacity b s is in
    let d : Record g.row.K = record_at g.row.K c.args.from.now 0 in
    let many : length b.rows ≤ 48 = omega (arith, is, c.requires.many) in
    ap Some (c.data_on.ensures g.row.K c.requires.few d capacity b s many at.inside) ∙ sym (at.value d)

pub returns-in-Ok-clause-spelled : goal.returns-in-Ok-clause-spelled
returns-in-Ok-clause-spelled g c = λ capacity b s is.
    c.remove_into.ensures.spelled capacity c.args.key.now.numbers b s is (c.in-Ok.ensures.found capacity b s is)

pub returns-in-Ok-clause-answer : goal.returns-in-Ok-clause-answer
returns-in-Ok-clause-answer g c = λ shape L t e h.
    returns-in-Ok-clause-old g c shape.capacity (bucket_on t e) h.spelled h.count ∙ tells-data shape L t e c.args.from.now c.args.count c.args.key.now.numbers h

pub returns-in-Ok-clause-plain : goal.returns-in-Ok-clause-plain
returns-in-Ok-clause-plain g c = λ shape L t e h.
    removes-plainly shape L t e c.args.from.now c.args.count c.args.key.now shape.capacity c.data_on.result c.remove_into.new.to h (returns-in-Ok-clause-old g c shape.capacity (bucket_on t e) h.spelled h.count)
    (returns-in-Ok-clause-spelled g c shape.capacity (bucket_on t e) h.spelled h.count)

pub returns-in-Err-clause-old : goal.returns-in-Err-clause-old
returns-in-Err-clause-old g c = λ capacity b s is.
    sym (none_on g.row.K capacity c.args.count c.args.from.now b c.requires.few c.requires.many c.fits-from s is c.args.key.now.numbers c.in-Err._before (c.in-Err.ensures.none capacity b s is))

pub returns-in-Err-clause-answer : goal.returns-in-Err-clause-answer
returns-in-Err-clause-answer g c = λ shape L t e h.
    returns-in-Err-clause-old g c shape.capacity (bucket_on t e) h.spelled h.count ∙ tells-data shape L t e c.args.from.now c.args.count c.args.key.now.numbers h
