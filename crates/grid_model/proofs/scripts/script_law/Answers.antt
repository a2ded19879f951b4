use Rattle.grid_model.proofs.Reading.{one-script}
use Rattle.grid_model.proofs.scripts.script_law.Goals as goal

pub returns : goal.returns
returns g c = one-script
