use Rattle.file_standing.proofs.PageSteps.{page-steps}
use Rattle.file_standing.proofs.laws.page_step_law.Goals as goal

pub returns : goal.returns
returns g c = page-steps
