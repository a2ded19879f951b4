use Rattle.grid_model.proofs.Together.{sound-layouts}
use Rattle.grid_model.proofs.layouts.layout_law.Goals as goal

pub returns : goal.returns
returns g c = sound-layouts
