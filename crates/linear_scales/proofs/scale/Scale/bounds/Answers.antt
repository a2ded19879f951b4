use Rattle.std.proofs.Common.{◌≡◌, ◌≤◌, ◌↔◌, ◌∙◌, ℕ, List, length, ap, subst, sym}
use Rattle.grid_model.specs.Scales.{interval, low, high}
use Rattle.linear_scales.specs.Limited.{LimitedScale}
use Rattle.linear_scales.proofs.Meeting.{bounds_contain}
use Rattle.linear_scales.proofs.scale.Scale.bounds.Goals as goal

pub returns-clause-contain : goal.returns-clause-contain
returns-clause-contain c v p =
    let same = ap (λ (s : LimitedScale). s.boundaries) c.self.view_is in
    subst (λ (bs : List ℕ). ((c.low.result ≤ v) × (v ≤ c.high.result)) ↔ (interval bs v ≡ c.args.i)) same
    (bounds_contain c.self.inside.boundaries.items c.args.i c.low.result c.high.result v c.self.invariant.lawful.scale
    (c.low.ensures ∙ ap (λ bs. low bs c.args.i) c.deref.ensures.value) (c.high.ensures ∙ ap (λ bs. high bs c.args.i) c.deref-2.ensures.value) p
    (subst (λ (bs : List ℕ). c.args.i ≤ length bs) (sym same) c.requires))
