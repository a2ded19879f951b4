use Rattle.std.proofs.Common.{◌∙◌, sym, refl}
use Rattle.bucket_page.proofs.Finding.{data_there}
use Rattle.bucket_page.proofs.searching.data_on.Goals as goal
use Rattle.std.proofs.Common.{length}

pub returns : goal.returns
returns c = λ K few d capacity b s many lt.
    let there = data_there K capacity (length b.rows) c.args.page.now b few many c.fits-page s refl c.args.i d lt in
    c.data_at.ensures there.0 ∙ sym there.1
