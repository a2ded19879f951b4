use Rattle.std.proofs.Common.{sym, ◌∙◌, arith}
use Rattle.grid_check.proofs.Strays.{box_cell, low_first}
use Rattle.grid_check.proofs.covers.all_name.Goals as goal

pub cells-init : goal.cells-init
cells-init g c = record {
  is_in = c.requires.some;
  before = λ cell inside lt. absurd (omega (arith, lt, low_first {K = g.row.K} c.args.dims.now.intervals c.args.cells.now cell c.requires.lowest inside));
}

pub index-requires : goal.index-requires
index-requires g c =
    let ns = c.args.dims.now.intervals in
    (omega (arith, c.requires.few), (omega (arith, c.requires.few), box_cell {K = g.row.K} ns c.args.cells.now c.cells.cell (c.requires.lowest.count ∙ sym c.requires.highest.count) c.requires.highest c.cells.invariant.is_in))
