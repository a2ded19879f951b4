use Rattle.std.proofs.Common.{◌+◌, ◌*◌, ◌/◌, ◌∙◌, ap, arith, slice_index, ℕ}
use Rattle.directory_changes.proofs.Counted.{few-intervals}
use Rattle.directory_changes.proofs.Growing.{cells-grown}
use Rattle.directory_changes.proofs.parts.cells_grown.Goals as goal

pub overflow_add-result : goal.overflow_add-result
overflow_add-result g c = omega (arith, few-intervals c.args.intervals.now c.args.attribute c.requires.lawful c.requires.attribute)

pub returns : goal.returns
returns g c =
    let ns = c.args.intervals.now in
    let old = slice_index ns c.args.attribute in
    ap (λ (x : ℕ). x / old * (old + 1)) c.requires.count ∙ cells-grown ns c.args.attribute c.requires.attribute (c.requires.lawful.each c.args.attribute c.requires.attribute)
