use Rattle.std.proofs.Common.{◌≡◌, ◌+◌, ◌∙◌, true, length, sym, ap, true≢false, arith}
use Rattle.grid_types.specs.Regions.{contains}
use Rattle.bucket_page.specs.Buckets.{bucket_of}
use Rattle.bucket_page.specs.Putting.{with_record}
use Rattle.bucket_page.proofs.Growing.{one-more}
use Rattle.bucket_page.proofs.OnPage.{told}
use Rattle.change_plans.proofs.InMemory.{in_memory, put-in-memory}
use Rattle.change_plans.proofs.Overfull.{roomier}
use Rattle.change_plans.proofs.cutting.overfull.Goals as goal

pub returns-in_default-clause-there : goal.returns-in_default-clause-there
returns-in_default-clause-there g c = λ b s inside. c.in_default.ensures.none (in_memory b) s

pub returns-then-not-contains-clause-there : goal.returns-then-not-contains-clause-there
returns-then-not-contains-clause-there g c = λ b s inside.
    let same : bucket_of c.in-Some.bucket ≡ b = ap bucket_of (c.in-Some.ensures.only (in_memory b) s) in
    let has : contains c.in-Some.bucket.region c.args.row.now.key.numbers ≡ true = ap (λ x. contains x.box.region c.args.row.now.key.numbers) same ∙ inside in
    true≢false (sym has ∙ sym c.contains.ensures.value ∙ c.if-not-contains.true)

pub returns-clause-there : goal.returns-clause-there
returns-clause-there g c = λ b s inside.
    let same : bucket_of c.in-Some.bucket ≡ b = ap bucket_of (c.in-Some.ensures.only (in_memory b) s) in
    let e = c.insert.ensures in
    put-in-memory (bucket_of c.in-Some.bucket) (bucket_of c.insert.new.self) c.args.row.now e.number e.region e.turn e.rows ∙ ap (λ x. with_record x c.args.row.now) same

pub returns-clause-lawful : goal.returns-clause-lawful
returns-clause-lawful g c =
    let found = c.in-Some.ensures.found in
    let longer = one-more _ (length c.insert.new.self.rows.items) (length c.in-Some.bucket.rows.items) c.insert.ensures.len in
    c.insert.ensures.lawful (c.args.capacity + 1) (roomier c.args.capacity (c.args.capacity + 1) (bucket_of c.in-Some.bucket) found.lawful (omega arith)) (omega (arith, longer, found.lawful.count)) (c.contains.ensures.within.0 c.if-not-contains.false)

pub returns-clause-region : goal.returns-clause-region
returns-clause-region g c = c.insert.ensures.region ∙ ap (λ b. b.box.region) (told g.row.K c.args.capacity c.args.from.now (bucket_of c.in-Some.bucket) c.requires.few c.requires.lawful c.fits-from c.in-Some.ensures.found)
