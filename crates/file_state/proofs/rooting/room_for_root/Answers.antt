use Rattle.std.proofs.Common.{◌∙◌, ap, length, arith}
use Rattle.std.proofs.lemmas.List.{length-replicate}
use Rattle.grid_model.specs.Lawful.{nowhere}
use Rattle.linear_scales.specs.Limited.{limits_of}
use Rattle.file_state.proofs.Scaling.{limits_there}
use Rattle.grid_types.proofs.Places.{within-limits}
use Rattle.file_state.proofs.rooting.room_for_root.Goals as goal

pub overflow_cast-shape : goal.overflow_cast-shape
overflow_cast-shape g c = omega (arith, (within-limits c.args.geometry.now.shape c.args.geometry.now.lawful).few_boundaries)

pub overflow_cast-shape-2 : goal.overflow_cast-shape-2
overflow_cast-shape-2 g c = omega (arith, (within-limits c.args.geometry.now.shape c.args.geometry.now.lawful).few_pages)

pub returns : goal.returns
returns g c = record {
  limits = ap limits_of c.in_ok-new.ensures ∙ limits_there g.row.K c.args.geometry.now.shape.boundaries;
  numbers = ap length c.in_ok-no_pages.ensures ∙ length-replicate c.args.geometry.now.shape.pages nowhere;
  parts = omega (arith, c.in_ok-with_room.ensures.room, (within-limits c.args.geometry.now.shape c.args.geometry.now.lawful).few_cells);
}
