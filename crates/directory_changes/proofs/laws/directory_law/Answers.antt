use Rattle.directory_changes.proofs.Renewed.{same-parts}
use Rattle.directory_changes.proofs.laws.directory_law.Goals as goal

pub returns : goal.returns
returns g c = λ shape L t u n e. same-parts shape L t u n e
