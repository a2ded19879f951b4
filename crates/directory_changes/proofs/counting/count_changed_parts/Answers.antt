use Rattle.std.proofs.Common.{◌∙◌, sym, arith}
use Rattle.directory_changes.proofs.Counted.{few-parts, count-nothing, count-patch, count-grow}
use Rattle.directory_changes.proofs.counting.count_changed_parts.Goals as goal

pub returns-in-Nothing-clause-count : goal.returns-in-Nothing-clause-count
returns-in-Nothing-clause-count g c = sym (count-nothing c.args.dims.now.intervals c.args.change.now c.in-Nothing.is)

pub returns-in-Patch-clause-count : goal.returns-in-Patch-clause-count
returns-in-Patch-clause-count g c = c.count_parts.ensures ∙ sym (count-patch c.args.dims.now.intervals c.args.change.now c.in-Patch.cells c.in-Patch.bucket c.in-Patch.is)

pub returns-in-Patch-clause-few : goal.returns-in-Patch-clause-few
returns-in-Patch-clause-few g c = omega (arith, c.count_parts.ensures, few-parts {K = g.row.K} c.args.dims.now.intervals c.in-Patch.cells, c.args.dims.now.lawful.few)

pub returns-in-Grow-clause-count : goal.returns-in-Grow-clause-count
returns-in-Grow-clause-count g c = c.parts_after.ensures ∙ sym (count-grow c.args.dims.now.intervals c.args.change.now c.in-Grow.attribute c.in-Grow.interval c.in-Grow.cells c.in-Grow.bucket c.in-Grow.is)
