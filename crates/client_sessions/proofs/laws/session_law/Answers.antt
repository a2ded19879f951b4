use Rattle.client_sessions.proofs.Joining.{runs-join}
use Rattle.client_sessions.proofs.laws.session_law.Goals as goal

pub returns : goal.returns
returns g c = runs-join
