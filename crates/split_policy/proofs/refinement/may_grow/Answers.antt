use Rattle.std.proofs.Common.{◌+◌, ◌≤◌, ◌&&◌, ◌∙◌, ℕ, List, length, nat_lt, nat_le, slice_index, slice_set, sym, ap, subst, rules, arith}
use Rattle.std.proofs.lemmas.Bool.{le-ltb, lt-ltb, and_left}
use Rattle.std.proofs.lemmas.List.{length-map}
use Rattle.grid_model.specs.Lists.{product}
use Rattle.grid_model.specs.Scales.{scale_of}
use Rattle.grid_model.specs.Cuts.{may_grow, cells_with}
use Rattle.linear_scales.specs.Limited.{scales_of}
use Rattle.split_policy.proofs.Growing.{each-positive}
use Rattle.split_policy.proofs.refinement.may_grow.Goals as goal

pub returns-then-shape-count : goal.returns-then-shape-count
unfolding may_grow
returns-then-shape-count g c =
    let ss = scales_of c.args.scales.now in
    let count = ap length (c.boundaries-count.ensures.value ∙ c.scale.ensures.boundaries) in
    sym (and_left (nat_lt (length (scale_of ss c.args.a)) c.args.shape.now.boundaries) (nat_le (cells_with ss c.args.a) c.args.shape.now.cells)
    (le-ltb (length (scale_of ss c.args.a)) c.args.shape.now.boundaries (omega (arith, count, c.if-shape-count.true))))

pub is_product_within-requires : goal.is_product_within-requires
is_product_within-requires g c = (
  search rules,
  λ k p.
      subst (λ (ns : List ℕ). 1 ≤ slice_index (slice_set ns c.args.a (length c.boundaries-count.result.now + 2)) k) (sym c.requires.intervals)
      (each-positive (scales_of c.args.scales.now) c.args.a (length c.boundaries-count.result.now) k (omega (arith, p, c.scale.ensures.count, length-map c.args.scales.now (λ s. s.boundaries)))),
)

pub returns : goal.returns
unfolding may_grow
returns g c =
    let ss = scales_of c.args.scales.now in
    let count = ap length (c.boundaries-count.ensures.value ∙ c.scale.ensures.boundaries) in
    c.is_product_within.ensures
    ∙ (λ i. nat_le (product (slice_set (c.requires.intervals i) c.args.a (count i + 2))) c.args.shape.now.cells)
    ∙ ap (λ t. t && nat_le (cells_with ss c.args.a) c.args.shape.now.cells) (sym (lt-ltb (length (scale_of ss c.args.a)) c.args.shape.now.boundaries (omega (arith, count, c.if-shape-count.false))))
