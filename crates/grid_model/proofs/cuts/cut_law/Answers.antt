use Rattle.grid_model.proofs.CutLaws.{cuts-best}
use Rattle.grid_model.proofs.cuts.cut_law.Goals as goal

pub returns : goal.returns
returns g c = cuts-best _
