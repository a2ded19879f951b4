use Rattle.std.proofs.Common.{arith}
use Rattle.grid_model.proofs.ScaleLaws.{each-from}
use Rattle.linear_scales.proofs.boundaries.high.Goals as goal

pub overflow_sub-result : goal.overflow_sub-result
overflow_sub-result c = each-from 1 c.args.boundaries.now c.args.i c.requires.scale (omega (arith, c.requires.inside, c.if-i-boundaries.false))
