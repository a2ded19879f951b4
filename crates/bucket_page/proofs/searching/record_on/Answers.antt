use Rattle.std.proofs.Common.{◌≡◌, ◌+◌, ◌*◌, ◌∙◌, sym, refl, length}
use Rattle.bucket_page.specs.OnPage.{record_at}
use Rattle.bucket_page.proofs.Finding.{data_there, record_there}
use Rattle.bucket_page.proofs.searching.record_on.Goals as goal

pub returns : goal.returns
returns g c = λ d capacity b s many lt.
    let K = g.row.K in
    let page = c.args.page.now in
    let there = data_there K capacity (length b.rows) page b c.requires.few many c.fits-page s refl c.args.i d lt in
    let value = c.data_at.ensures there.0 in
    let whole : (record { key = c.key_at.result; value = c.data_at.result }) ≡ record_at K page (96 + 80 * c.args.i) = λ j. record { key = record { numbers = c.key_at.ensures j }; value = value j } in
    whole ∙ sym (record_there K capacity (length b.rows) page b c.requires.few many c.fits-page s refl c.args.i d lt)
