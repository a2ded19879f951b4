use Rattle.std.proofs.Common.{sym, arith}
use Rattle.grid_types.specs.Queries.{is_straight}
use Rattle.grid_types.proofs.Each.{each-item}
use Rattle.grid_types.proofs.query.all_straight.Goals as goal

pub returns : goal.returns
returns g c = sym (each-item is_straight c.args.sides.now (λ i side h. c.loop-side.invariant i side (omega (arith, h, c.told-sides, c.loop-side-test.false))))
