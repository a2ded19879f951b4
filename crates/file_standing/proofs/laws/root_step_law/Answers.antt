use Rattle.file_standing.proofs.RootAlone.{root-steps}
use Rattle.file_standing.proofs.laws.root_step_law.Goals as goal

pub returns : goal.returns
returns g c = root-steps
