use Rattle.std.proofs.Common.{sym, ◌∙◌, arith}
use Rattle.grid_types.specs.Queries.{admits, matches}
use Rattle.grid_types.specs.declared.query.Side.TheVariants.{Any}
use Rattle.grid_types.proofs.Each.{each-pair, one-pair}
use Rattle.grid_types.proofs.query.all_admit.Goals as goal

pub returns-then-not-admits : goal.returns-then-not-admits
unfolding matches
returns-then-not-admits g c = sym (one-pair admits c.args.sides.now c.args.numbers.now c.loop-a.a Any 0 (omega (arith, c.told-sides, c.loop-a-test.true)) (sym c.admits.ensures ∙ c.if-not-admits.true))

pub returns : goal.returns
unfolding matches
returns g c = sym (each-pair admits c.args.sides.now c.args.numbers.now (c.told-sides ∙ sym c.told-numbers) (λ i side n h. c.loop-a.invariant i side n (omega (arith, h, c.told-sides, c.loop-a-test.false))))
