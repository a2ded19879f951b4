use Rattle.std.proofs.Common.{◌∙◌, ap}
use Rattle.grid_types.specs.Keys.{key_cmp}
use Rattle.bucket_page.proofs.OnPage.{corner_is}
use Rattle.bucket_page.proofs.record.order_at.Goals as goal

pub returns : goal.returns
returns g c = c.cmp.ensures ∙ ap (key_cmp c.args.key.now.numbers) (corner_is g.row.K c.args.at c.args.page.now c.get_corner.result c.fits-page c.get_corner.ensures)
