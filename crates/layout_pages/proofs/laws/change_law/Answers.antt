use Rattle.layout_pages.proofs.Changing.{change-holds}
use Rattle.layout_pages.proofs.Vanishing.{renews-owners}
use Rattle.layout_pages.proofs.laws.change_law.Goals as goal

pub returns : goal.returns
returns g c = record { owners = renews-owners; holds = change-holds }
