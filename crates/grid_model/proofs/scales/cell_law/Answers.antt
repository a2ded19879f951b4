use Rattle.grid_model.proofs.CellLaws.{have-indices}
use Rattle.grid_model.proofs.scales.cell_law.Goals as goal

pub returns : goal.returns
returns g c = have-indices _
