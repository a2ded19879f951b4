use Rattle.file_redo.proofs.Beginning.{redo-begins}
use Rattle.file_redo.proofs.Leading.{redo-leads}
use Rattle.file_redo.proofs.laws.redo_law.Goals as goal

pub returns-clause-begins : goal.returns-clause-begins
returns-clause-begins g c = redo-begins

pub returns-clause-leads : goal.returns-clause-leads
returns-clause-leads g c = redo-leads
