use Rattle.std.proofs.Common.{◌≡◌, ◌&&◌, ◌∙◌, filter, flat_map, length, nat_lt, nat_le, slice_index, sym, ap, subst, arith}
use Rattle.std.proofs.lemmas.List.{length-map}
use Rattle.grid_model.specs.Lists.{below}
use Rattle.grid_model.specs.Cuts.{best_existing, candidates, candidates_in}
use Rattle.linear_scales.specs.Limited.{scales_of}
use Rattle.split_policy.specs.Rows.{keys_of, AreAscending}
use Rattle.split_policy.specs.Candidates.{best_of}
use Rattle.split_policy.proofs.Attributes.{one-attribute}
use Rattle.split_policy.proofs.existing.best_existing.Goals as goal

pub loop-a-preserved : goal.loop-a-preserved
loop-a-preserved g c =
    let a = c.loop-a.a in
    let keys = keys_of c.args.rows.now in
    let ss = scales_of c.args.scales.now in
    let r = c.args.region.now in
    let numbers = subst (AreAscending (keys_of c.args.rows.now) c.loop-a.a) (sym c.deref.ensures.0) c.ascending-numbers.ensures in
    c.best_among-best.ensures keys (flat_map (candidates_in ss r keys) (below a)) numbers c.loop-a.invariant
    ∙ ap (best_of keys) (one-attribute ss r keys a c.between-boundaries.result.now
    (c.between-boundaries.ensures.value ∙ ap (filter (λ v. nat_lt (slice_index r.lo a) v && nat_le v (slice_index r.hi a))) c.scale.ensures.boundaries))

pub returns : goal.returns
unfolding best_existing candidates
returns g c =
    let all : c.loop-a.a ≡ length (scales_of c.args.scales.now) = omega (arith, c.loop-a-test.false, c.loop-a.auto, c.requires.count, length-map c.args.scales.now (λ s. s.boundaries)) in
    c.loop-a.invariant ∙ ap (λ n. best_of (keys_of c.args.rows.now) (flat_map (candidates_in (scales_of c.args.scales.now) c.args.region.now (keys_of c.args.rows.now)) (below n))) all
