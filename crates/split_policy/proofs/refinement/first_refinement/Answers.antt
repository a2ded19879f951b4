use Rattle.std.proofs.Common.{◌∙◌, arith}
use Rattle.std.proofs.lemmas.List.{length-map}
use Rattle.linear_scales.specs.Limited.{scales_of}
use Rattle.split_policy.specs.Rows.{keys_of}
use Rattle.split_policy.proofs.Turns.{turn-found, turn-none}
use Rattle.split_policy.proofs.refinement.first_refinement.Goals as goal

pub returns-in-Some : goal.returns-in-Some
returns-in-Some g c =
    turn-found c.args.shape.now (scales_of c.args.scales.now) (keys_of c.args.rows.now) c.args.turn g.row.K (length-map c.args.scales.now (λ s. s.boundaries) ∙ c.requires.count)
    c.loop-s.s c.in-Some.cut c.loop-s-test.true c.loop-s.invariant c.in-Some.ensures

pub returns : goal.returns
returns g c =
    turn-none c.args.shape.now (scales_of c.args.scales.now) (keys_of c.args.rows.now) c.args.turn g.row.K (length-map c.args.scales.now (λ s. s.boundaries) ∙ c.requires.count)
    (λ k p. c.loop-s.invariant k (omega (arith, p, c.loop-s-test.false)))
