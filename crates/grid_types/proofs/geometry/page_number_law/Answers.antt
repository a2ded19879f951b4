use Rattle.grid_types.proofs.PageNumbers.{are-apart}
use Rattle.grid_types.proofs.geometry.page_number_law.Goals as goal

pub returns : goal.returns
returns c = are-apart
