use Rattle.recovery.proofs.OneAnswer.{one_answer, counts_updates}
use Rattle.recovery.proofs.laws.survey_law.Goals as goal

pub returns-clause-answer : goal.returns-clause-answer
returns-clause-answer g c = one_answer g.row.K

pub returns-clause-place : goal.returns-clause-place
returns-clause-place g c = counts_updates g.row.K
