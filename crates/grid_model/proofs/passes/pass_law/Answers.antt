use Rattle.grid_model.proofs.Passing.{keeps-passes}
use Rattle.grid_model.proofs.passes.pass_law.Goals as goal

pub returns : goal.returns
returns g c = keeps-passes
