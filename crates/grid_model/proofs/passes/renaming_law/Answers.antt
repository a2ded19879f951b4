use Rattle.grid_model.proofs.Renaming.{renames-callers}
use Rattle.grid_model.proofs.passes.renaming_law.Goals as goal

pub returns : goal.returns
returns g c = renames-callers
