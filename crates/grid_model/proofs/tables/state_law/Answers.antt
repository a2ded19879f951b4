use Rattle.grid_model.proofs.Listed.{makes-states}
use Rattle.grid_model.proofs.tables.state_law.Goals as goal

pub returns : goal.returns
returns g c = makes-states
