use Rattle.std.proofs.Common.{◌*◌, ◌+◌, slice_index, arith}
use Rattle.grid_model.specs.Lawful.{cells_of_counts}
use Rattle.root_pages.proofs.Counts.{cells_below, cells_step, part_at_most}
use Rattle.root_pages.proofs.lawful.cells_of.Goals as goal

pub overflow_mul-cells : goal.overflow_mul-cells
overflow_mul-cells c =
    let ns = c.args.boundaries.now in
    let a = c.loop-a.a in
    let next = cells_step ns c.loop-a.cells a (omega (arith, c.loop-a-test.true)) c.loop-a.invariant in
    omega (arith, cells_below ns c.requires.small (omega (arith, c.requires.few)), part_at_most ns (c.loop-a.cells * (slice_index ns a + 1)) (a + 1) (cells_of_counts ns) next)

pub loop-a-preserved : goal.loop-a-preserved
loop-a-preserved c = cells_step c.args.boundaries.now c.loop-a.cells c.loop-a.a (omega (arith, c.loop-a-test.true)) c.loop-a.invariant

pub returns-clause-small : goal.returns-clause-small
returns-clause-small c =
    let ns = c.args.boundaries.now in
    omega (arith, cells_below ns c.requires.small (omega (arith, c.requires.few)), part_at_most ns c.loop-a.cells c.loop-a.a (cells_of_counts ns) c.loop-a.invariant)
