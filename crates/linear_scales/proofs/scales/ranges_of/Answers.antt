use Rattle.std.proofs.Common.{◌∙◌, sym, arith}
use Rattle.std.proofs.lemmas.List.{length-set}
use Rattle.grid_types.specs.Queries.{begin_of, end_of}
use Rattle.grid_model.proofs.Filled.{step-both}
use Rattle.linear_scales.proofs.Ranges.{AreRanges, range-read, ends-filled}
use Rattle.linear_scales.proofs.Querying.{query-meets}
use Rattle.linear_scales.proofs.scales.ranges_of.Goals as goal

pub loop-a-preserved : goal.loop-a-preserved
loop-a-preserved g c =
    let r = c.interval_range-lowest.result in
    let found = c.interval_range-lowest.ensures in
    record {
      low = length-set c.loop-a.lo c.loop-a.a r.0 ∙ c.loop-a.invariant.low;
      high = length-set c.loop-a.hi c.loop-a.a r.1 ∙ c.loop-a.invariant.high;
      each = step-both (AreRanges c.args.scales.now c.args.sides.now) c.loop-a.lo c.loop-a.hi c.loop-a.a r.0 r.1
          (omega (arith, c.loop-a.invariant.low, c.loop-a-test.true)) (omega (arith, c.loop-a.invariant.high, c.loop-a-test.true)) c.loop-a.invariant.each
          (range-read c.args.scales.now c.args.sides.now c.loop-a.a c.index-scales-a.result r.0 r.1 (omega (arith, c.requires.count, c.loop-a-test.true)) (omega (arith, c.told-sides, c.loop-a-test.true)) c.index-scales-a.is
          (record { lawful = found.lawful; lowest = found.lowest; highest = found.highest; meets = found.meets }));
    }

pub returns-clause-lowest : goal.returns-clause-lowest
returns-clause-lowest g c =
    ends-filled begin_of c.args.scales.now c.args.sides.now c.loop-a.lo (c.told-sides ∙ sym c.requires.count) (c.loop-a.invariant.low ∙ sym c.requires.count)
    (λ k d e p. (c.loop-a.invariant.each k (omega (arith, p, c.requires.count, c.loop-a-test.false)) d e).lowest)

pub returns-clause-highest : goal.returns-clause-highest
returns-clause-highest g c =
    ends-filled end_of c.args.scales.now c.args.sides.now c.loop-a.hi (c.told-sides ∙ sym c.requires.count) (c.loop-a.invariant.high ∙ sym c.requires.count)
    (λ k d e p. (c.loop-a.invariant.each k (omega (arith, p, c.requires.count, c.loop-a-test.false)) d e).highest)

pub returns-clause-meets : goal.returns-clause-meets
returns-clause-meets g c =
    query-meets c.args.scales.now c.args.sides.now (record { lo = c.loop-a.lo; hi = c.loop-a.hi }) c.requires.count c.told-sides c.loop-a.invariant.low (λ k p. c.loop-a.invariant.each k (omega (arith, p, c.loop-a-test.false)))
