use Rattle.layout_pages.proofs.Opening.{opening-holds}
use Rattle.layout_pages.proofs.laws.opening_law.Goals as goal

pub returns : goal.returns
returns g c = opening-holds
