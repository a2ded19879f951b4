use Rattle.std.proofs.Common.{subst}
use Rattle.bucket_page.specs.Search.{IsFoundAt, FitsBefore}
use Rattle.bucket_page.proofs.Tables.{ascends}
use Rattle.bucket_page.proofs.Searches.{found_at, none_before}
use Rattle.bucket_page.proofs.bucket.Bucket.find.Goals as goal

pub returns-in-Ok-clause-found : goal.returns-in-Ok-clause-found
returns-in-Ok-clause-found g c =
    let k = c.args.key.now.numbers in
    found_at k c.args.self.now.rows.items c.in-Ok.at (subst (λ xs. IsFoundAt k xs c.in-Ok.at) c.as_slice.ensures.value c.in-Ok.ensures.found)

pub returns-in-Err-clause-none : goal.returns-in-Err-clause-none
returns-in-Err-clause-none g c =
    let k = c.args.key.now.numbers in
    let rows = c.args.self.now.rows.items in
    none_before k rows c.in-Err._before (ascends rows c.requires) (subst (λ xs. FitsBefore k xs c.in-Err._before) c.as_slice.ensures.value c.in-Err.ensures.found)
