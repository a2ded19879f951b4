use Rattle.std.proofs.Common.{sym, ◌∙◌, ap, arith}
use Rattle.std.proofs.lemmas.List.{same_lists, get_or_read}
use Rattle.linear_scales.specs.Limited.{LimitedScale}
use Rattle.linear_scales.proofs.Filling.{same-limits}
use Rattle.linear_scales.proofs.scales.copy_each.Goals as goal

pub copy_from-requires : goal.copy_from-requires
copy_from-requires c =
    ap (λ (s : LimitedScale). s.limit) (get_or_read c.args.others.now c.loop-a.a c.index-others-a.result c.loop-a-test.true c.index-others-a.is c.index-scales-a.result)
    ∙ same-limits c.args.others.now c.args.scales.now c.loop-a.a c.index-scales-a.result c.requires.limits
    ∙ ap (λ (s : LimitedScale). s.limit) (sym (c.loop-a.invariant.rest c.loop-a.a c.index-scales-a.result (omega arith)))

pub returns : goal.returns
returns c = same_lists c.loop-a.scales c.args.others.now (omega (arith, c.requires.count, c.loop-a.auto.scales)) (λ k d p. c.loop-a.invariant.done k d (omega (arith, p, c.requires.count, c.loop-a.auto.scales, c.loop-a-test.false)))
