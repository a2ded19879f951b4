use Rattle.file_standing.proofs.Leading.{files-lead, claimed-unkept}
use Rattle.file_standing.proofs.laws.lead_law.Goals as goal

pub returns : goal.returns
returns g c = record { leads = files-lead; unkept = claimed-unkept }
