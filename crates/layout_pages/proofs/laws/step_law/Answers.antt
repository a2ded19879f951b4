use Rattle.layout_pages.proofs.Sweeps.{sweep-holds}
use Rattle.layout_pages.proofs.Claiming.{claim-holds, given-holds}
use Rattle.layout_pages.proofs.laws.step_law.Goals as goal

pub returns : goal.returns
returns g c = record { sweep = sweep-holds; claim = claim-holds; giving_back = given-holds }
