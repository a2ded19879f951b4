use Rattle.grid_types.proofs.Places.{within-limits}
use Rattle.grid_file.proofs.reading.GridFilePinned.capacity.Goals as goal

pub returns-clause-few : goal.returns-clause-few
returns-clause-few g c = (within-limits c.geometry.result.shape c.geometry.result.lawful).small_capacity
