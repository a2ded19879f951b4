use Rattle.std.proofs.Common.{◌≡◌, ◌-◌, ◌∙◌, sym, ap, take, drop, arith}
use Rattle.grid_model.specs.Scales.{is_scale, interval}
use Rattle.split_policy.proofs.Inside.{stand-between, part-ascends}
use Rattle.split_policy.proofs.existing.between.Goals as goal

pub returns-then-end-begin-clause-value : goal.returns-then-end-begin-clause-value
returns-then-end-begin-clause-value c =
    let bs = c.args.scale.now.boundaries in
    let none : 0 ≡ interval c.args.scale.now.boundaries c.args.hi - interval c.args.scale.now.boundaries c.args.lo = omega (arith, c.interval-begin.ensures.value, c.interval-end.ensures.value, c.if-end-begin.true) in
    ap (λ n. take n (drop (interval c.args.scale.now.boundaries c.args.lo) c.args.scale.now.boundaries)) none ∙ sym (stand-between bs c.args.lo c.args.hi c.boundaries-boundaries.ensures.lawful.scale)

pub returns-clause-value : goal.returns-clause-value
returns-clause-value c =
    (λ i. take (c.interval-end.ensures.value i - c.interval-begin.ensures.value i) (drop (c.interval-begin.ensures.value i) (c.boundaries-boundaries.ensures.value i)))
    ∙ sym (stand-between c.args.scale.now.boundaries c.args.lo c.args.hi c.boundaries-boundaries.ensures.lawful.scale)

pub returns-clause-ascend : goal.returns-clause-ascend
returns-clause-ascend c =
    part-ascends c.boundaries-boundaries.result.now (c.interval-end.result - c.interval-begin.result) c.interval-begin.result (ap is_scale c.boundaries-boundaries.ensures.value ∙ c.boundaries-boundaries.ensures.lawful.scale)
