use Rattle.std.proofs.Common.{◌≡◌, ◌≤◌, ◌-◌, length}
use Rattle.grid_model.specs.Lists.{product}
use Rattle.grid_model.specs.Cells.{dims, cell_index}
use Rattle.query_paths.specs.Calls.{place, LeavesPlace}
use Rattle.query_paths.specs.Walks.{IsBoxCell, IsHeldGood, IsWalked, cells_met}
use Rattle.query_paths.proofs.walking.walk.Given as goal

abbrev pub invariant-cells : goal.invariant-cells
invariant-cells g l = record {
  same : LeavesPlace g.Q.Pinned l.fn.pinned l.pinned;
  later : g.Q.Pinned.faults l.fn.pinned ≤ g.Q.Pinned.faults l.pinned;
  is_in : IsBoxCell (place g.Q.Pinned l.fn.pinned) (cells_met (g.Q.Pinned.scales l.fn.pinned) l.query) l.cell;
  good : IsHeldGood (place g.Q.Pinned l.fn.pinned) l.room;
  marks : length l.room.marks ≡ length l.fn.room.marks;
  walked : IsWalked (place g.Q.Pinned l.fn.pinned) l.query (cells_met (g.Q.Pinned.scales l.fn.pinned) l.query) (cell_index (dims (g.Q.Pinned.scales l.fn.pinned)) l.cell) l.room l.fn.steps l.steps (g.G.Gather.holds l.gathering);
}

abbrev pub decreases-cells : goal.decreases-cells
decreases-cells g l = product l.dims.intervals - cell_index l.dims.intervals l.cell
