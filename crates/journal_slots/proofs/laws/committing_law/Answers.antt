use Rattle.journal_slots.proofs.Stages.{whole_after_step}
use Rattle.journal_slots.proofs.laws.committing_law.Goals as goal

pub returns-clause-whole : goal.returns-clause-whole
returns-clause-whole g c = λ s half slot b old new step closed. whole_after_step s half slot b old new step closed

pub returns-clause-elsewhere : goal.returns-clause-elsewhere
returns-clause-elsewhere g c = λ s half slot b old new step. step.elsewhere
