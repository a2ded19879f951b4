use Rattle.page_states.proofs.WholeChanges.{change_keeps, change_serves, change_settles}
use Rattle.page_states.proofs.laws.change_law.Goals as goal

pub returns : goal.returns
returns c = record { keeps = change_keeps; serves = change_serves; settles = change_settles }
