use Rattle.std.proofs.Common.{sym, ap, ◌∙◌, arith}
use Rattle.linear_scales.specs.Limited.{limits_of}
use Rattle.file_state.proofs.Scaling.{limits_there}
use Rattle.file_state.proofs.opening.copy_scales.Goals as goal

pub copy_from-requires : goal.copy_from-requires
copy_from-requires g c = (omega arith, c.requires ∙ sym (ap limits_of c.in_ok-copy.ensures ∙ limits_there g.row.K c.args.limit))
