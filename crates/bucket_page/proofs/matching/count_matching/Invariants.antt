use Rattle.std.proofs.Common.{◌≡◌, ◌≤◌, length}
use Rattle.grid_model.specs.Tables.{pairs_of}
use Rattle.grid_model.specs.Listings.{rows}
use Rattle.bucket_page.specs.OnPage.{records_at}
use Rattle.bucket_page.proofs.matching.count_matching.Given as goal

abbrev pub invariant-loop-i : goal.invariant-loop-i
invariant-loop-i g l = record {
  few : l.found ≤ l.i;
  found : l.found ≡ length (rows (pairs_of (records_at g.row.K l.page 96 l.i)) l.query);
}
