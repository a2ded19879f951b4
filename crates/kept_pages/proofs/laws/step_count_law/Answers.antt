use Rattle.kept_pages.proofs.Steps.{steps-count}
use Rattle.kept_pages.proofs.laws.step_count_law.Goals as goal

pub returns : goal.returns
returns g c = steps-count
