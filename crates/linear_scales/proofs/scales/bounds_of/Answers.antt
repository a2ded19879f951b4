use Rattle.std.proofs.Common.{◌<◌, ◌∙◌, length, ap, arith}
use Rattle.std.proofs.lemmas.List.{length-set}
use Rattle.grid_model.proofs.Filled.{step-both}
use Rattle.linear_scales.specs.Limited.{LimitedScale}
use Rattle.linear_scales.proofs.Querying.{inside-at}
use Rattle.linear_scales.proofs.Keyed.{AreEndsAt, ends-read, ends-region, ends-contain}
use Rattle.linear_scales.proofs.scales.bounds_of.Goals as goal

pub bounds-low-requires : goal.bounds-low-requires
bounds-low-requires g c = omega (arith, inside-at c.args.scales.now c.args.cell.now c.loop-a.a c.index-scales-a.result c.requires.cell.each (omega (arith, c.requires.count, c.loop-a-test.true)), ap (λ (s : LimitedScale). length s.boundaries) c.index-scales-a.is)

pub loop-a-preserved : goal.loop-a-preserved
loop-a-preserved g c =
    let found = c.bounds-low.ensures in
    let low : c.loop-a.a < length c.args.scales.now = omega (arith, c.requires.count, c.loop-a-test.true) in
    record {
      low = length-set c.loop-a.lo c.loop-a.a c.bounds-low.result.0 ∙ c.loop-a.invariant.low;
      high = length-set c.loop-a.hi c.loop-a.a c.bounds-low.result.1 ∙ c.loop-a.invariant.high;
      each = step-both (AreEndsAt c.args.scales.now c.args.cell.now) c.loop-a.lo c.loop-a.hi c.loop-a.a c.bounds-low.result.0 c.bounds-low.result.1
          (omega (arith, c.loop-a.invariant.low, c.loop-a-test.true)) (omega (arith, c.loop-a.invariant.high, c.loop-a-test.true)) c.loop-a.invariant.each
          (ends-read c.args.scales.now c.args.cell.now c.loop-a.a c.index-scales-a.result c.bounds-low.result.0 c.bounds-low.result.1 low c.index-scales-a.is c.limit-limit.ensures.lawful
          (omega (arith, inside-at c.args.scales.now c.args.cell.now c.loop-a.a c.index-scales-a.result c.requires.cell.each low, ap (λ (s : LimitedScale). length s.boundaries) c.index-scales-a.is)) found.low found.high found.contain);
    }

pub returns-clause-some : goal.returns-clause-some
returns-clause-some g c = ends-region c.args.scales.now c.args.cell.now c.loop-a.lo c.loop-a.hi c.requires.count c.told-cell c.loop-a.invariant.low c.loop-a.invariant.high (λ k r. c.loop-a.invariant.each k (omega (arith, r, c.loop-a-test.false)))

pub returns-clause-keys : goal.returns-clause-keys
returns-clause-keys g c = ends-contain c.args.scales.now c.args.cell.now c.loop-a.lo c.loop-a.hi c.requires.count c.told-cell c.loop-a.invariant.low c.loop-a.invariant.high (λ k r. c.loop-a.invariant.each k (omega (arith, r, c.loop-a-test.false)))
