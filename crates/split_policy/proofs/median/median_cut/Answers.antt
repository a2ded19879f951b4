use Rattle.linear_scales.specs.Limited.{scales_of}
use Rattle.split_policy.specs.Rows.{keys_of}
use Rattle.split_policy.proofs.Choices.{cut-old, cut-new}
use Rattle.std.proofs.Common.{◌∙◌}
use Rattle.split_policy.proofs.median.median_cut.Goals as goal

pub returns-in-Some-clause-value : goal.returns-in-Some-clause-value
returns-in-Some-clause-value g c =
    cut-old c.args.shape.now (scales_of c.args.scales.now) (keys_of c.args.rows.now) (record { region = c.args.region.now; turn = c.args.turn }) c.in-Some.best c.in-Some.ensures

pub returns-in-None-clause-value : goal.returns-in-None-clause-value
returns-in-None-clause-value g c =
    c.first_refinement.ensures
    ∙ cut-new c.args.shape.now (scales_of c.args.scales.now) (keys_of c.args.rows.now) (record { region = c.args.region.now; turn = c.args.turn }) c.in-None.ensures
