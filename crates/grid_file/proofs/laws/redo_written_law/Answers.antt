use Rattle.grid_file.proofs.Beside.{writing_goes_on}
use Rattle.grid_file.proofs.laws.redo_written_law.Goals as goal

pub returns : goal.returns
returns g c = writing_goes_on g.D.Disk
