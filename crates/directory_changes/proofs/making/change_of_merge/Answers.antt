use Rattle.linear_scales.specs.Limited.{scales_of}
use Rattle.directory_changes.proofs.Made.{is-merge}
use Rattle.directory_changes.proofs.making.change_of_merge.Goals as goal

pub returns-clause-change : goal.returns-clause-change
returns-clause-change g c = λ L e m same part low. is-merge L e m (scales_of c.args.scales.now) c.args.vanishing.now c.cell_box.result c.args.survivor c.cell_box.ensures.value same part low
