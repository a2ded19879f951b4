use Rattle.std.proofs.Common.{◌+◌, ◌∙◌, ap, length, arith}
use Rattle.linear_scales.proofs.Filling.{boundaries-more, all-boundaries}
use Rattle.linear_scales.proofs.scales.count_boundaries.Goals as goal

pub loop-a-preserved : goal.loop-a-preserved
loop-a-preserved c =
    let found = c.boundaries.ensures in
    let same = ap length found.value in
    record {
      value = ap (λ n. c.loop-a.count + n) same ∙ boundaries-more c.args.scales.now c.loop-a.a c.loop-a.count c.index-scales-a.result c.loop-a-test.true c.index-scales-a.is c.loop-a.invariant.value;
      few = omega (arith, same, found.lawful.count, found.lawful.in_range, c.loop-a.invariant.few);
    }

pub returns : goal.returns
returns c = all-boundaries c.args.scales.now c.loop-a.a c.loop-a.count c.loop-a-test.false c.loop-a.invariant.value
