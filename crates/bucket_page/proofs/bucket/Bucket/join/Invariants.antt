use Rattle.std.proofs.Common.{◌≡◌, ◌≤◌, ◌+◌, take}
use Rattle.arrayvec.specs.ArrayVec.{array_vec_len}
use Rattle.grid_model.specs.Tables.{IsTable, pairs_of}
use Rattle.bucket_page.specs.Changing.{with_all}
use Rattle.bucket_page.proofs.bucket.Bucket.join.Given as goal

abbrev pub invariant-loop-row : goal.invariant-loop-row
invariant-loop-row g l = record {
  rows : pairs_of l.self.rows.items ≡ with_all (pairs_of l.initial.self.rows.items) (take l.row-index l.other.rows.items);
  ascending : IsTable (pairs_of l.self.rows.items);
  room : array_vec_len l.self.rows ≤ array_vec_len l.initial.self.rows + l.row-index;
  number : l.self.number ≡ l.initial.self.number;
  turn : l.self.turn ≡ l.initial.self.turn;
}
