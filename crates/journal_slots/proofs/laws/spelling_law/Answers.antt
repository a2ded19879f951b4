use Rattle.journal_slots.proofs.OneScan.{one_spelled}
use Rattle.journal_slots.proofs.laws.spelling_law.Goals as goal

pub returns : goal.returns
returns g c = one_spelled g.row.K
