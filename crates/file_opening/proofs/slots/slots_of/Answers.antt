use Rattle.grid_types.proofs.Places.{within-limits}
use Rattle.file_opening.proofs.slots.slots_of.Goals as goal

pub returns-clause-few : goal.returns-clause-few
returns-clause-few c = (within-limits c.args.geometry.now.shape c.args.geometry.now.lawful).few_slots
