use Rattle.grid_model.proofs.Printing.{prints-lines}
use Rattle.grid_model.proofs.scripts.text_law.Goals as goal

pub returns : goal.returns
returns g c = prints-lines
