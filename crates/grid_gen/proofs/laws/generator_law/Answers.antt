use Rattle.grid_gen.proofs.Rounds.{generator}
use Rattle.grid_gen.proofs.Worked.{worked-row}
use Rattle.grid_gen.proofs.laws.generator_law.Goals as goal

pub returns-clause-lines : goal.returns-clause-lines
returns-clause-lines g c = generator g.row.K

pub returns-clause-worked : goal.returns-clause-worked
returns-clause-worked g c = worked-row
