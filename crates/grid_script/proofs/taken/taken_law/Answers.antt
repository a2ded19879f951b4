use Rattle.grid_script.proofs.Taking.{script-sound, script-clients, fault-one}
use Rattle.grid_script.proofs.taken.taken_law.Goals as goal

pub returns-clause-sound : goal.returns-clause-sound
returns-clause-sound g c = script-sound

pub returns-clause-one : goal.returns-clause-one
returns-clause-one g c = fault-one

pub returns-clause-clients : goal.returns-clause-clients
returns-clause-clients g c = script-clients
