use Rattle.std.proofs.Common.{◌≤◌, length, sym, subst, ap, arith}
use Rattle.grid_types.specs.Regions.{IsRegion, part_below}
use Rattle.grid_types.proofs.Parted.{below-region}
use Rattle.grid_model.specs.Buckets.{IsBucket}
use Rattle.bucket_page.specs.Buckets.{bucket_of}
use Rattle.bucket_page.specs.Changing.{left_bucket}
use Rattle.bucket_page.proofs.Divided.{left-lawful, next-below}
use Rattle.bucket_page.proofs.bucket.Bucket.left_part.Goals as goal

pub returns-clause-lawful : goal.returns-clause-lawful
returns-clause-lawful g c = λ most m h few.
    let b = bucket_of c.args.self.now in
    let cut = c.args.cut.now in
    let turn = next-below cut.attribute g.row.K c.requires.attribute in
    let region : IsRegion g.row.K (part_below b.box.region cut.attribute cut.value) = below-region b.box.region cut.attribute cut.value h.region c.requires.attribute c.requires.within in
    let count : length (left_bucket b cut).rows ≤ most = omega (arith, few, ap length c.rows_in.ensures) in
    subst (IsBucket most) (sym (λ i. record { number = c.args.self.now.number; box = record { region = c.cut-region.ensures.below i; turn = c.next_turn.ensures i }; rows = c.rows_in.ensures i })) (left-lawful m most b cut h c.requires.attribute c.requires.within turn region count)
