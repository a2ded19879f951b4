use Rattle.kept_pages.proofs.Changes.{change-counts}
use Rattle.kept_pages.proofs.laws.change_count_law.Goals as goal

pub returns : goal.returns
returns g c = change-counts
