use Rattle.std.proofs.Common.{List, ap, ◌∙◌, arith}
use Rattle.grid_types.proofs.Places.{within-limits}
use Rattle.linear_scales.specs.Limited.{LimitedScale, limits_of}
use Rattle.file_state.proofs.Scaling.{limits_there}
use Rattle.file_updates.proofs.room.UpdateRoom.new.Goals as goal

pub overflow_cast-geometry : goal.overflow_cast-geometry
overflow_cast-geometry g c = omega (arith, (within-limits c.args.geometry.now.shape c.args.geometry.now.lawful).few_boundaries)

pub returns : goal.returns
returns g c = ap (λ (s : List LimitedScale). limits_of s) c.in_ok-refined.ensures ∙ limits_there g.row.K c.args.geometry.now.shape.boundaries
