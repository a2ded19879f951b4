use Rattle.std.proofs.Common.{◌≡◌, ◌++◌}
use Rattle.grid_model.specs.Tables.{pairs_of}
use Rattle.grid_model.specs.Listings.{rows}
use Rattle.bucket_page.specs.OnPage.{OfBucket, records_at}
use Rattle.bucket_page.proofs.matching.push_matching.Given as goal

abbrev pub invariant-loop-i : goal.invariant-loop-i
invariant-loop-i g l = OfBucket g.row.K l.page l.count (λ b. pairs_of l.found ≡ pairs_of l.initial.found ++ rows (pairs_of (records_at g.row.K l.page 96 l.i)) l.query)
