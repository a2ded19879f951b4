use Rattle.std.proofs.Common.{◌≡◌, List, slice_set, subst, arith}
use Rattle.std.specs.Prelude.{OnOk}
use Rattle.std.proofs.lemmas.List.{get_or_read}
use Rattle.grid_model.specs.Scales.{scale_of, refined}
use Rattle.linear_scales.specs.Limited.{LimitedScale, scales_of, limits_of}
use Rattle.linear_scales.proofs.Filling.{scales-refined, limits-kept}
use Rattle.linear_scales.proofs.scales.Scales.refine.Goals as goal

pub returns-clause-scales : goal.returns-clause-scales
returns-clause-scales g c =
    let all = c.self.inside.scales.items in
    subst (λ (ss : List LimitedScale). OnOk c.refine.result (scales_of (slice_set c.self.inside.scales.items c.args.a c.refine.new.self) ≡ slice_set (scales_of ss) c.args.a (refined (scale_of (scales_of ss) c.args.a) c.args.v))) c.self.view_is
    (scales-refined c.refine.result all c.args.a c.args.v c.index_mut.result.now c.refine.new.self (omega (arith, c.requires.attribute, c.self.invariant))
    (get_or_read all c.args.a c.index_mut.result.now (omega (arith, c.requires.attribute, c.self.invariant)) c.index_mut.ensures.value) c.refine.ensures.boundaries)

pub returns-clause-limits : goal.returns-clause-limits
returns-clause-limits g c =
    let all = c.self.inside.scales.items in
    subst (λ (ss : List LimitedScale). limits_of (slice_set c.self.inside.scales.items c.args.a c.refine.new.self) ≡ limits_of ss) c.self.view_is
    (limits-kept all c.args.a c.index_mut.result.now c.refine.new.self (omega (arith, c.requires.attribute, c.self.invariant))
    (get_or_read all c.args.a c.index_mut.result.now (omega (arith, c.requires.attribute, c.self.invariant)) c.index_mut.ensures.value) c.refine.ensures.limit)
