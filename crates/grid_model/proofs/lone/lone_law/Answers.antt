use Rattle.grid_model.proofs.Together.{lone-legal}
use Rattle.grid_model.proofs.lone.lone_law.Goals as goal

pub returns : goal.returns
returns g c = lone-legal
