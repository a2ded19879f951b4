use Rattle.std.proofs.Common.{rules}
use Rattle.grid_model.specs.Lawful.{nowhere}
use Rattle.file_state.proofs.rooting.no_pages.Goals as goal

pub returns : goal.returns
unfolding nowhere
returns c = search rules
