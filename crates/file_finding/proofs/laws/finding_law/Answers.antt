use Rattle.file_finding.proofs.Finding.{standing_finds}
use Rattle.file_finding.proofs.laws.finding_law.Goals as goal

pub returns : goal.returns
returns g c = standing_finds
