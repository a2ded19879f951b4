use Rattle.std.proofs.Common.{slice_index}
use Rattle.bucket_page.proofs.OnPage.{corner_is}
use Rattle.bucket_page.proofs.head.read_head.Goals as goal

pub returns : goal.returns
returns g c =
    let page = c.args.page.now in
    let lo = corner_is g.row.K 16 page c.get_corner.result c.fits-page c.get_corner.ensures in
    let hi = corner_is g.row.K 48 page c.get_corner-2.result c.fits-page c.get_corner-2.ensures in
    λ i. record { number = c.get_u32.ensures i; count = c.get_u16.ensures i; turn = slice_index page 10; region = record { lo = lo i; hi = hi i } }
