use Rattle.kept_pages.proofs.FreePages.{free-count}
use Rattle.kept_pages.proofs.laws.free_count_law.Goals as goal

pub returns : goal.returns
returns g c = free-count
