use Rattle.client_sessions.proofs.Explaining.{runs-are-explained}
use Rattle.client_sessions.proofs.laws.explained_law.Goals as goal

pub returns : goal.returns
returns g c = runs-are-explained
