use Rattle.std.proofs.Common.{◌∙◌}
use Rattle.grid_types.specs.Halves.{half_number}
use Rattle.file_state.proofs.Journals.{used_same}
use Rattle.file_state.proofs.reading.used.Goals as goal

pub returns : goal.returns
returns g c = c.used.ensures ∙ used_same c.args.memory.now (half_number c.args.half)
