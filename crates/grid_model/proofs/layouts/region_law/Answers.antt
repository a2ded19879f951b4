use Rattle.grid_model.proofs.CutRegions.{parts-region}
use Rattle.grid_model.proofs.layouts.region_law.Goals as goal

pub returns : goal.returns
returns g c = record { parts = parts-region }
