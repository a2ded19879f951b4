use Rattle.std.proofs.Common.{◌≡◌, ◌∙◌, sym, ap, arith, cond, Bool, ◌+◌}
use Rattle.grid_model.specs.Lone.{need}
use Rattle.directory_changes.proofs.Renewed.{need-told}
use Rattle.directory_changes.proofs.counting.need.Goals as goal

pub returns-then-spare-clause-need : goal.returns-then-spare-clause-need
returns-then-spare-clause-need g c = λ shape L t u n e h dims-are is few to-spare.
    need-told shape L t u n e c.args.dims.now.intervals c.args.change.now c.args.buckets c.count_changed_parts.result 1 h dims-are is few c.count_changed_parts.ensures.count (sym (ap (λ (b : Bool). cond b 1 0) c.if-spare.true) ∙ to-spare)

pub returns-else-spare-clause-need : goal.returns-else-spare-clause-need
returns-else-spare-clause-need g c = λ shape L t u n e h dims-are is few to-spare.
    let whole : c.args.buckets + c.count_changed_parts.result + 0 ≡ need L e u n =
    need-told shape L t u n e c.args.dims.now.intervals c.args.change.now c.args.buckets c.count_changed_parts.result 0 h dims-are is few c.count_changed_parts.ensures.count (sym (ap (λ (b : Bool). cond b 1 0) c.if-spare.false) ∙ to-spare) in
    omega (arith, whole)
