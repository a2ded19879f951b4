use Rattle.grid_model.proofs.LeastLaws.{has-least}
use Rattle.grid_model.proofs.cuts.least_law.Goals as goal

pub returns : goal.returns
returns g c = has-least _
