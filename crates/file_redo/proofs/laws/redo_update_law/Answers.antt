use Rattle.file_redo.proofs.Going.{redo-may-go-on}
use Rattle.file_redo.proofs.Publishing.{redo-goes-on}
use Rattle.file_redo.proofs.laws.redo_update_law.Goals as goal

pub returns-clause-may : goal.returns-clause-may
returns-clause-may g c = redo-may-go-on

pub returns-clause-goes_on : goal.returns-clause-goes_on
returns-clause-goes_on g c = redo-goes-on
