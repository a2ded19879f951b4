use Rattle.std.proofs.Common.{◌≤◌, ◌+◌, ◌*◌, ℕ, List}
use Rattle.grid_model.specs.Layouts.{BucketBox, Layout}
use Rattle.grid_model.specs.Neighbours.{directions, joins}
use Rattle.grid_model.specs.Tables.{Table, without}
use Rattle.query_paths.specs.Pinned.{IsPinnedTo}
use Rattle.query_paths.specs.Calls.{place, LeavesPlace}
use Rattle.merge_paths.specs.Partners.{IsLosing}
use Rattle.merge_paths.proofs.Sides.{NoneBefore}
use Rattle.merge_paths.proofs.partner.find_partner.Given as goal

abbrev pub invariant-loop-i : goal.invariant-loop-i
invariant-loop-i g l = record {
  same : LeavesPlace g.Q.Pinned l.fn.pinned l.pinned;
  later : g.Q.Pinned.faults l.fn.pinned ≤ g.Q.Pinned.faults l.pinned;
  least : l.fn.steps ≤ l.steps;
  most : l.steps ≤ l.fn.steps + 2 * l.i;
  none : (L : Layout g.row.K) (t : Table) (key : List ℕ) (e : ℕ × BucketBox g.row.K) → IsPinnedTo {K = g.row.K} (place g.Q.Pinned l.fn.pinned) L t → IsLosing {K = g.row.K} (g.Q.Pinned.shape l.fn.pinned) L t key e l.head
      → NoneBefore (joins {K = g.row.K} (g.Q.Pinned.shape l.fn.pinned) L (without t key) e.1.region) (directions g.row.K) l.i;
}
