use Rattle.std.proofs.Common.{slice_index, slice_index_or, arith}
use Rattle.linear_scales.specs.Limited.{scales_of}
use Rattle.grid_check.specs.Covers.{region_under}
use Rattle.grid_check.specs.declared.holding.Holding.{Holding}
use Rattle.grid_check.proofs.Strays.{region_is_under, stray_step}
use Rattle.grid_check.proofs.covers.least_stray.Goals as goal

pub loop-at-preserved : goal.loop-at-preserved
loop-at-preserved g c =
    let d = c.cell.ensures in
    let l = c.least_with-least.ensures in
    let holdings = c.args.holdings.now in
    let names = c.args.names.now in
    let at = c.loop-at.at in
    let number = slice_index names at in
    let held : Holding g.row.K = c.index-holdings-number.result in
    record {
      least = stray_step {K = g.row.K} (scales_of c.args.scales.now) (λ i. slice_index names i) (region_under {K = g.row.K} holdings) at c.loop-at.least c.least_with-least.result c.args.dims.now.intervals c.cell.result (slice_index_or holdings number held).region c.is_cell_of-inside.result
          c.requires.dims d.cell d.index d.only (region_is_under {K = g.row.K} holdings number (c.requires.named at (omega (arith, c.loop-at-test.true, c.loop-at.auto.at-end, c.cells-at-end.ensures, c.requires.count))) held)
          c.is_cell_of-inside.ensures l.stays l.falls c.loop-at.invariant.least;
    }
