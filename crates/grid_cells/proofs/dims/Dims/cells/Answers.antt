use Rattle.std.proofs.Common.{◌*◌, ◌+◌, drop, slice_index, arith}
use Rattle.grid_model.specs.Lists.{product}
use Rattle.grid_cells.proofs.Products.{rest-positive, product-step, part-few}
use Rattle.grid_cells.proofs.dims.Dims.cells.Goals as goal

pub overflow_mul-cells : goal.overflow_mul-cells
overflow_mul-cells g c =
    let ns = c.args.self.now.intervals in
    let a = c.loop-a.a in
    omega (
      arith,
      c.args.self.now.lawful.few,
      part-few (c.loop-a.cells * slice_index c.args.self.now.intervals c.loop-a.a) (product (drop (c.loop-a.a + 1) c.args.self.now.intervals)) (product c.args.self.now.intervals)
          (rest-positive ns (a + 1) c.args.self.now.lawful.each) (product-step ns c.loop-a.cells a (omega (arith, c.loop-a-test.true)) c.loop-a.invariant),
    )
