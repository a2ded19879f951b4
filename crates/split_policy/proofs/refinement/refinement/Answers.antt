use Rattle.std.proofs.Common.{◌∙◌, sym}
use Rattle.linear_scales.specs.Limited.{scales_of}
use Rattle.split_policy.specs.Rows.{keys_of}
use Rattle.split_policy.proofs.Choices.{not-grown, new-found, new-none}
use Rattle.split_policy.proofs.refinement.refinement.Goals as goal

pub returns-then-not-may_grow : goal.returns-then-not-may_grow
returns-then-not-may_grow g c =
    not-grown c.args.shape.now (scales_of c.args.scales.now) (keys_of c.args.rows.now) c.args.a (sym c.may_grow.ensures ∙ c.if-not-may_grow.true)

pub returns-in-Some : goal.returns-in-Some
returns-in-Some g c =
    new-found c.args.shape.now (scales_of c.args.scales.now) (keys_of c.args.rows.now) c.args.a (sym c.may_grow.ensures ∙ c.if-not-may_grow.false) c.in-Some.best c.in-Some.ensures

pub returns-in-None : goal.returns-in-None
returns-in-None g c =
    new-none c.args.shape.now (scales_of c.args.scales.now) (keys_of c.args.rows.now) c.args.a (sym c.may_grow.ensures ∙ c.if-not-may_grow.false) c.in-None.ensures
