use Rattle.std.proofs.Common.{arith}
use Rattle.grid_cells.proofs.Walks.{follows, is-last}
use Rattle.grid_cells.proofs.dims.Dims.next.Goals as goal

pub returns-in_default : goal.returns-in_default
returns-in_default g c =
    is-last c.args.self.now.intervals c.args.cells.now c.args.cell.now (omega (arith, c.requires.inside.count)) c.requires.highest c.requires.inside
    (λ b q. c.in_default.ensures.none b (omega (arith, q)))

pub returns : goal.returns
returns g c =
    let f = c.in-Some.ensures.found in
    follows c.args.self.now.intervals c.args.cells.now c.args.cell.now c.stepped.result c.in-Some.a (omega (arith, c.requires.inside.count)) c.requires.highest c.requires.inside
    (omega (arith, f.inside)) f.below (λ b p q. f.rest b p (omega (arith, q))) c.stepped.ensures
