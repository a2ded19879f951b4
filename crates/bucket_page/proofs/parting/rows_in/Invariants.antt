use Rattle.std.proofs.Common.{◌≡◌, ◌≤◌, take, length}
use Rattle.bucket_page.specs.Changing.{rows_in}
use Rattle.bucket_page.proofs.parting.rows_in.Given as goal

abbrev pub invariant-loop-row : goal.invariant-loop-row
invariant-loop-row g l = record {
  chosen : l.chosen.items ≡ rows_in l.part (take l.row-index l.rows.items) l.attribute l.value;
  count : length l.chosen.items ≤ l.row-index;
}
