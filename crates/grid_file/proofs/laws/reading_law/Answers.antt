use Rattle.grid_file.proofs.Telling.{readings_tell}
use Rattle.grid_file.proofs.laws.reading_law.Goals as goal

pub returns : goal.returns
returns g c = readings_tell g.D.Disk g.met.D.Disk.seen_now
