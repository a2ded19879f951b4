use Rattle.std.proofs.Common.{◌≡◌, ◌<◌, ◌+◌, ◌++◌, ◌∷◌, [], ◌∙◌, ℕ, List, length, take, drop, get_or, slice_set, IsTrue, sym, ap, subst, arith}
use Rattle.std.proofs.lemmas.List.{get_or-set_same, length-map, length-append, length-take-le}
use Rattle.grid_model.specs.Scales.{is_scale, scale_of}
use Rattle.linear_scales.specs.Limited.{scales_of}
use Rattle.linear_scales.proofs.Filling.{same-limits}
use Rattle.file_roots.specs.Gathering.{longer_scale}
use Rattle.file_roots.proofs.Ascending.{front_of_scale}
use Rattle.file_roots.proofs.Marking.{entries_more, front_and_rest, set_again}
use Rattle.file_roots.proofs.gathering.take_boundaries.Goals as goal

-- the front of a list is shorter
shorter : (old xs : List ℕ) (i : ℕ) → i < length xs → length (old ++ take i xs) < length (old ++ xs)
shorter old xs i lt = omega (arith, length-append old (take i xs), length-append old xs, length-take-le i xs (omega (arith, lt)))

pub returns-then-not-add_boundary-clause-refused : goal.returns-then-not-add_boundary-clause-refused
returns-then-not-add_boundary-clause-refused g c = λ xs on no d room lawful.
    let first = scales_of c.args.scales.now in
    let old = scale_of first c.args.a in
    let i = c.loop-i.i in
    let v = c.boundary_at.result in
    let lt : i < length xs = omega (arith, on.count_is, c.loop-i-test.true) in
    let is : v ≡ get_or xs i 0 = c.boundary_at.ensures.number ∙ sym (on.each i lt) in
    let inside : c.args.a < length first = omega (arith, length-map c.args.scales.now (λ s. s.boundaries), c.requires.attributes, c.requires.attribute) in
    let now : scale_of (scales_of c.loop-i.scales) c.args.a ≡ old ++ take i xs = ap (λ ss. scale_of ss c.args.a) (c.loop-i.invariant.taken xs on) ∙ get_or-set_same first c.args.a (old ++ take i xs) [] inside in
    let next : longer_scale (scales_of c.loop-i.scales) c.args.a (v ∷ []) ≡ old ++ take (i + 1) xs = ap (λ ys. ys ++ v ∷ []) now ∙ entries_more old xs i v lt is in
    let scale = front_of_scale (old ++ take (i + 1) xs) (drop (i + 1) xs) (subst (λ ys. IsTrue (is_scale ys)) (front_and_rest old xs (i + 1)) lawful) in
    let limit = same-limits c.loop-i.scales c.args.scales.now c.args.a d c.loop-i.invariant.limits in
    c.add_boundary.ensures.refused c.if-not-add_boundary.true d (omega (arith, room, limit, ap length now, shorter old xs i lt)) (subst (λ ys. IsTrue (is_scale ys)) (sym next) scale)

pub loop-i-preserved : goal.loop-i-preserved
loop-i-preserved g c =
    let first = scales_of c.args.scales.now in
    let old = scale_of first c.args.a in
    let i = c.loop-i.i in
    let v = c.boundary_at.result in
    let inside : c.args.a < length first = omega (arith, length-map c.args.scales.now (λ s. s.boundaries), c.requires.attributes, c.requires.attribute) in
    record {
      taken = λ xs on.
          let lt : i < length xs = omega (arith, on.count_is, c.loop-i-test.true) in
          let is : v ≡ get_or xs i 0 = c.boundary_at.ensures.number ∙ sym (on.each i lt) in
          let so_far = c.loop-i.invariant.taken xs on in
          let now : scale_of (scales_of c.loop-i.scales) c.args.a ≡ old ++ take i xs = ap (λ ss. scale_of ss c.args.a) so_far ∙ get_or-set_same first c.args.a (old ++ take i xs) [] inside in
          let next : longer_scale (scales_of c.loop-i.scales) c.args.a (v ∷ []) ≡ old ++ take (i + 1) xs = ap (λ ys. ys ++ v ∷ []) now ∙ entries_more old xs i v lt is in
          c.add_boundary.ensures.added c.if-not-add_boundary.false ∙ ap (slice_set (scales_of c.loop-i.scales) c.args.a) next ∙ ap (λ ss. slice_set ss c.args.a (old ++ take (i + 1) xs)) so_far ∙ set_again first c.args.a (old ++ take i xs) (old ++ take (i + 1) xs);
      scale = λ first_is xs on.
          let lt : i < length xs = omega (arith, on.count_is, c.loop-i-test.true) in
          let is : v ≡ get_or xs i 0 = c.boundary_at.ensures.number ∙ sym (on.each i lt) in
          let so_far = c.loop-i.invariant.taken xs on in
          let now : scale_of (scales_of c.loop-i.scales) c.args.a ≡ old ++ take i xs = ap (λ ss. scale_of ss c.args.a) so_far ∙ get_or-set_same first c.args.a (old ++ take i xs) [] inside in
          let next : longer_scale (scales_of c.loop-i.scales) c.args.a (v ∷ []) ≡ old ++ take (i + 1) xs = ap (λ ys. ys ++ v ∷ []) now ∙ entries_more old xs i v lt is in
          subst (λ ys. IsTrue (is_scale ys)) next (c.add_boundary.ensures.scale c.if-not-add_boundary.false);
      limits = c.add_boundary.ensures.limits ∙ c.loop-i.invariant.limits;
    }
