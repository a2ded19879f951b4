use Rattle.std.proofs.Common.{◌≡◌, ◌≤◌, ◌*◌, map}
use Rattle.std.specs.Prelude.{sum_by}
use Rattle.grid_model.specs.Lists.{below}
use Rattle.grid_check.specs.Covers.{records_under}
use Rattle.grid_check.proofs.records.count_records.Given as goal

abbrev pub invariant-loop-number : goal.invariant-loop-number
invariant-loop-number g l = record {
  total : l.count ≡ sum_by (λ x. x) (map (records_under {K = g.row.K} l.table.items l.holdings) (below l.number));
  few : l.count ≤ 65535 * l.number;
}
