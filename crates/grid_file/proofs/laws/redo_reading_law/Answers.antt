use Rattle.grid_file.proofs.Telling.{redo_readings_tell}
use Rattle.grid_file.proofs.laws.redo_reading_law.Goals as goal

pub returns : goal.returns
returns g c = redo_readings_tell g.D.Disk g.met.D.Disk.seen_now
