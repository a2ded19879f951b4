use Rattle.file_redo.proofs.Ending.{redo-ends}
use Rattle.file_redo.proofs.Alone.{rooted-alone}
use Rattle.file_redo.proofs.laws.reopened_law.Goals as goal

pub returns-clause-ends : goal.returns-clause-ends
returns-clause-ends g c = redo-ends

pub returns-clause-alone : goal.returns-clause-alone
returns-clause-alone g c = rooted-alone
