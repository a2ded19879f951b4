use Rattle.file_standing.proofs.Committing.{commit-stands}
use Rattle.file_standing.proofs.laws.commit_law.Goals as goal

pub returns : goal.returns
returns g c = commit-stands
