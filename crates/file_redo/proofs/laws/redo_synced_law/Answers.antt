use Rattle.file_redo.proofs.Synced.{synced-meets}
use Rattle.file_redo.proofs.laws.redo_synced_law.Goals as goal

pub returns : goal.returns
returns g c = synced-meets g.D.Disk
