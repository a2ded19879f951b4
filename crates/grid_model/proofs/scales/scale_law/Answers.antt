use Rattle.grid_model.proofs.ScaleLaws.{parts-numbers}
use Rattle.grid_model.proofs.scales.scale_law.Goals as goal

pub returns : goal.returns
returns c = parts-numbers
