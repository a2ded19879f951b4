use Rattle.kept_pages.proofs.Starts.{roots-count}
use Rattle.kept_pages.proofs.laws.root_count_law.Goals as goal

pub returns : goal.returns
returns g c = roots-count
