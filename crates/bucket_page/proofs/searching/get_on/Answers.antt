use Rattle.std.proofs.Common.{◌≤◌, ◌∙◌, Some, ap, sym, length, arith}
use Rattle.grid_types.specs.declared.update.Record.{Record}
use Rattle.bucket_page.specs.OnPage.{record_at}
use Rattle.bucket_page.proofs.Finding.{none_on}
use Rattle.bucket_page.proofs.searching.get_on.Goals as goal

pub returns-in-Ok : goal.returns-in-Ok
returns-in-Ok g c = λ capacity b s is.
    let at = c.in-Ok.ensures.found capacity b s is in
    let d : Record g.row.K = record_at g.row.K c.args.page.now 0 in
    let many : length b.rows ≤ 48 = omega (arith, is, c.requires.many) in
    ap Some (c.data_on.ensures g.row.K c.requires.few d capacity b s many at.inside) ∙ sym (at.value d)

pub returns-in-Err : goal.returns-in-Err
returns-in-Err g c = λ capacity b s is.
    sym (none_on g.row.K capacity c.args.count c.args.page.now b c.requires.few c.requires.many c.fits-page s is c.args.key.now.numbers c.in-Err._before (c.in-Err.ensures.none capacity b s is))
