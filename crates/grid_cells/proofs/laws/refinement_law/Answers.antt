use Rattle.grid_cells.proofs.Images.{lie-in-images}
use Rattle.grid_cells.proofs.Names.{names-stay}
use Rattle.grid_cells.proofs.laws.refinement_law.Goals as goal

pub returns : goal.returns
returns c = record { image = lie-in-images; names = names-stay }
