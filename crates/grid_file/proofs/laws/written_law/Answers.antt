use Rattle.grid_file.proofs.Standing.{writing_stands}
use Rattle.grid_file.proofs.laws.written_law.Goals as goal

pub returns : goal.returns
returns g c = writing_stands g.D.Disk
