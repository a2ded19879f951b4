use Rattle.bucket_page.proofs.OnPage.{corner_is}
use Rattle.bucket_page.proofs.record.key_at.Goals as goal

pub returns : goal.returns
returns g c = corner_is g.row.K c.args.at c.args.page.now c.get_corner.result c.fits-page c.get_corner.ensures
