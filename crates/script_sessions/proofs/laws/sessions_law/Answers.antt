use Rattle.script_sessions.proofs.Telling.{sessions-tell}
use Rattle.script_sessions.proofs.laws.sessions_law.Goals as goal

pub returns : goal.returns
returns g c = sessions-tell {K = g.row.K} {D = g.row.D.Denot} g.D.Disk c.explained_law.ensures c.store_law.ensures
