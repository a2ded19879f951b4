use Rattle.std.proofs.Common.{◌≡◌, ◌≤◌, sym, subst, arith}
use Rattle.grid_types.proofs.Places.{within-limits}
use Rattle.grid_cells.specs.Dims.{IsDims}
use Rattle.linear_scales.specs.Limited.{scales_of}
use Rattle.file_state.proofs.Rooms.{interval_there}
use Rattle.file_state.proofs.reading.cells.Goals as goal

pub dims-requires : goal.dims-requires
dims-requires g c =
    let few : c.args.memory.now.geometry.shape.k ≤ 4 = (within-limits c.args.memory.now.geometry.shape c.requires.books.lawful).few_attributes in
    let same : c.args.memory.now.geometry.shape.k ≡ g.row.K = c.requires.books.attributes in
    (omega arith, omega (arith, few, same))

pub invariant_of-dims : goal.invariant_of-dims
invariant_of-dims g c = record {
  lawful = subst IsDims (sym c.dims.ensures) (record {
    each = interval_there (scales_of c.args.memory.now.scales);
    few = omega (arith, c.requires.books.scales.few_cells, (within-limits c.args.memory.now.geometry.shape c.requires.books.lawful).few_cells);
  });
}

pub cells-requires : goal.cells-requires
cells-requires g c =
    let few : c.args.memory.now.geometry.shape.k ≤ 4 = (within-limits c.args.memory.now.geometry.shape c.requires.books.lawful).few_attributes in
    let same : c.args.memory.now.geometry.shape.k ≡ g.row.K = c.requires.books.attributes in
    omega (arith, few, same)
