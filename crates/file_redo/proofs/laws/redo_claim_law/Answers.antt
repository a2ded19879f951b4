use Rattle.file_redo.proofs.Claims.{claims-count}
use Rattle.file_redo.proofs.laws.redo_claim_law.Goals as goal

pub returns : goal.returns
returns g c = claims-count
