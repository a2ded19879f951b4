use Rattle.std.proofs.Common.{◌≡◌, ◌∙◌, length, slice_set, IsTrue, false, sym, ap, subst, arith}
use Rattle.grid_model.specs.Lists.{is_among}
use Rattle.grid_model.specs.Scales.{is_scale, scale_of}
use Rattle.linear_scales.specs.Limited.{scales_of}
use Rattle.linear_scales.proofs.Filling.{scale-at}
use Rattle.file_roots.proofs.Ascending.{put_behind, scale_again, last_is_below, is_fresh, no_cause, last_bound}
use Rattle.file_roots.proofs.Outcomes.{on_ok_there, if_err_there}
use Rattle.file_roots.proofs.gathering.add_boundary.Goals as goal

pub returns-then-v-last-clause-refused : goal.returns-then-v-last-clause-refused
returns-then-v-last-clause-refused g c = λ no d room lawful.
    let old = scale_of (scales_of c.args.scales.now) c.args.a in
    let end = last_bound c.bounds-last.result.0 _ _ old c.bounds-last.ensures.low c.boundaries.ensures.value c.scale-scale.ensures.boundaries in
    absurd (omega (arith, end, last_is_below old c.args.v lawful, c.if-v-last.true))

pub returns-clause-added : goal.returns-clause-added
returns-clause-added g c = λ yes.
    let old = scale_of (scales_of c.args.scales.now) c.args.a in
    let end = last_bound c.bounds-last.result.0 _ _ old c.bounds-last.ensures.low c.boundaries.ensures.value c.scale-scale.ensures.boundaries in
    let lawful : IsTrue (is_scale old) = subst (λ xs. IsTrue (is_scale xs)) c.scale-scale.ensures.boundaries c.boundaries.ensures.lawful.scale in
    on_ok_there c.refine.result (sym c.is_ok.ensures.value ∙ yes) c.refine.ensures.scales ∙ ap (slice_set (scales_of c.args.scales.now) c.args.a) (put_behind old c.args.v lawful (omega (arith, end, c.if-v-last.false)))

pub returns-clause-scale : goal.returns-clause-scale
returns-clause-scale g c = λ yes.
    let old = scale_of (scales_of c.args.scales.now) c.args.a in
    let end = last_bound c.bounds-last.result.0 _ _ old c.bounds-last.ensures.low c.boundaries.ensures.value c.scale-scale.ensures.boundaries in
    let lawful : IsTrue (is_scale old) = subst (λ xs. IsTrue (is_scale xs)) c.scale-scale.ensures.boundaries c.boundaries.ensures.lawful.scale in
    scale_again old c.args.v lawful (omega (arith, c.ranges.v)) (omega (arith, end, c.if-v-last.false))

pub returns-clause-refused : goal.returns-clause-refused
returns-clause-refused g c = λ no d room scale.
    let old = scale_of (scales_of c.args.scales.now) c.args.a in
    let end = last_bound c.bounds-last.result.0 _ _ old c.bounds-last.ensures.low c.boundaries.ensures.value c.scale-scale.ensures.boundaries in
    let lawful : IsTrue (is_scale old) = subst (λ xs. IsTrue (is_scale xs)) c.scale-scale.ensures.boundaries c.boundaries.ensures.lawful.scale in
    let at = scale-at c.args.scales.now c.args.a d (omega (arith, c.scale-scale.ensures.count, c.requires)) in
    let cause = if_err_there c.refine.result (sym c.is_ok.ensures.value ∙ no) (c.refine.ensures.refused d) in
    no_cause _ c.args.v cause.0 (subst (λ xs. is_among xs c.args.v ≡ false) at (is_fresh old c.args.v lawful (omega (arith, end, c.if-v-last.false)))) (omega (arith, room, ap length at)) cause.1
