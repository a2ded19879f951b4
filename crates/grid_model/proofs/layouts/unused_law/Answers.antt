use Rattle.grid_model.proofs.LeastUnused.{least-unused}
use Rattle.grid_model.proofs.layouts.unused_law.Goals as goal

pub returns : goal.returns
returns g c = least-unused
