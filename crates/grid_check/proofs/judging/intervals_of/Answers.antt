use Rattle.std.proofs.Common.{sym, subst, arith}
use Rattle.grid_types.proofs.Places.{within-limits}
use Rattle.grid_cells.specs.Dims.{IsDims}
use Rattle.linear_scales.specs.Limited.{scales_of}
use Rattle.file_state.proofs.Rooms.{interval_there}
use Rattle.file_state.proofs.Rooted.{counted_cells}
use Rattle.grid_check.proofs.judging.intervals_of.Goals as goal

pub invariant_of-result : goal.invariant_of-result
invariant_of-result g c = record {
  lawful = subst IsDims (sym c.dims.ensures) (record {
    each = interval_there (scales_of c.args.root.now.scales);
    few = omega (arith, c.requires.lawful.fields.few_cells, counted_cells (scales_of c.args.root.now.scales), (within-limits c.args.geometry.now.shape c.args.geometry.now.lawful).few_cells);
  });
}
