use Rattle.std.proofs.Common.{◌∙◌, sym, arith}
use Rattle.grid_model.proofs.Indices.{one-cell}
use Rattle.grid_cells.proofs.Cells.{deal, dealt-all}
use Rattle.grid_cells.proofs.dims.Dims.cell.Goals as goal

pub loop-a-preserved : goal.loop-a-preserved
loop-a-preserved g c =
    let ns = c.args.self.now.intervals in
    deal ns c.loop-a.cell c.loop-a.a c.loop-a.size c.loop-a.rest c.args.at c.args.self.now.lawful.each (omega (arith, c.loop-a-test.true)) c.loop-a.invariant

pub returns : goal.returns
returns g c =
    let ns = c.args.self.now.intervals in
    let d = dealt-all ns c.loop-a.cell c.loop-a.a c.loop-a.size c.loop-a.rest c.args.at (omega (arith, c.loop-a-test.false)) c.loop-a.invariant in
    record { cell = d.0; index = d.1; only = λ other h e. one-cell ns other c.loop-a.cell h d.0 (e ∙ sym d.1) }
