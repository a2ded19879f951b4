use Rattle.layout_pages.proofs.Copying.{copy-holds}
use Rattle.layout_pages.proofs.laws.copy_law.Goals as goal

pub returns : goal.returns
returns g c = copy-holds
