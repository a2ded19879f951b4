use Rattle.std.proofs.Common.{◌≤◌, length, sym, subst, ap, arith}
use Rattle.grid_types.specs.Regions.{IsRegion, part_from}
use Rattle.grid_types.proofs.Parted.{from-region}
use Rattle.grid_model.specs.Buckets.{IsBucket}
use Rattle.bucket_page.specs.Buckets.{bucket_of}
use Rattle.bucket_page.specs.Changing.{right_bucket}
use Rattle.bucket_page.proofs.Divided.{right-lawful, next-below}
use Rattle.bucket_page.proofs.bucket.Bucket.right_part.Goals as goal

pub returns-clause-lawful : goal.returns-clause-lawful
returns-clause-lawful g c = λ most m h few.
    let b = bucket_of c.args.self.now in
    let cut = c.args.cut.now in
    let turn = next-below cut.attribute g.row.K c.requires.attribute in
    let region : IsRegion g.row.K (part_from b.box.region cut.attribute cut.value) = from-region b.box.region cut.attribute cut.value h.region c.requires.attribute c.requires.within in
    let count : length (right_bucket b cut c.args.number).rows ≤ most = omega (arith, few, ap length c.rows_in.ensures) in
    subst (IsBucket most) (sym (λ i. record { number = c.args.number; box = record { region = c.cut-region.ensures.from i; turn = c.next_turn.ensures i }; rows = c.rows_in.ensures i })) (right-lawful m most b cut h c.requires.attribute c.requires.within c.args.number (omega (arith, c.ranges.number.fits)) turn region count)
