use Rattle.file_redo.proofs.PageSteps.{redo-page-steps}
use Rattle.file_redo.proofs.laws.redo_page_law.Goals as goal

pub returns : goal.returns
returns g c = redo-page-steps
