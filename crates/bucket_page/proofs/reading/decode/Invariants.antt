use Rattle.std.proofs.Common.{◌≡◌, length}
use Rattle.bucket_page.specs.OnPage.{head_told, records_at}
use Rattle.bucket_page.proofs.reading.decode.Given as goal

abbrev pub invariant-loop-i : goal.invariant-loop-i
invariant-loop-i g l = record {
  number : l.bucket.number ≡ (head_told g.row.K l.page).number;
  turn : l.bucket.turn ≡ (head_told g.row.K l.page).turn;
  region : l.bucket.region ≡ (head_told g.row.K l.page).region;
  len : length l.bucket.rows.items ≡ l.i;
  rows : l.bucket.rows.items ≡ records_at g.row.K l.page 96 l.i;
}
