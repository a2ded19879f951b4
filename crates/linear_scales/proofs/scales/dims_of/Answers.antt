use Rattle.std.proofs.Common.{◌≡◌, ◌∙◌, ap, sym, arith, get_or}
use Rattle.std.proofs.lemmas.List.{get_or_read, length-set}
use Rattle.grid_model.specs.Scales.{intervals}
use Rattle.linear_scales.specs.Limited.{LimitedScale}
use Rattle.grid_model.proofs.Filled.{step}
use Rattle.linear_scales.proofs.Filling.{dims-filled}
use Rattle.linear_scales.proofs.scales.dims_of.Goals as goal

pub loop-a-preserved : goal.loop-a-preserved
loop-a-preserved g c = record {
  count = length-set c.loop-a.dims c.loop-a.a c.intervals.result ∙ c.loop-a.invariant.count;
  each = step (λ k x. (d : LimitedScale) → x ≡ intervals (get_or c.args.scales.now k d).boundaries) c.loop-a.dims c.loop-a.a c.intervals.result
      (omega (arith, c.loop-a.invariant.count, c.loop-a-test.true)) c.loop-a.invariant.each
      (λ d. c.intervals.ensures ∙ ap (λ (s : LimitedScale). intervals s.boundaries) (get_or_read c.args.scales.now c.loop-a.a c.index-scales-a.result (omega (arith, c.requires, c.loop-a-test.true)) c.index-scales-a.is d));
}

pub returns : goal.returns
returns g c = dims-filled c.args.scales.now c.loop-a.dims (c.loop-a.invariant.count ∙ sym c.requires) (λ k d p. c.loop-a.invariant.each k (omega (arith, p, c.requires, c.loop-a-test.false)) d)
