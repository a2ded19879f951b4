use Rattle.std.proofs.Common.{◌∙◌, ap, arith, subst, List, ℕ, IsTrue}
use Rattle.std.proofs.lemmas.List.{length-map}
use Rattle.grid_model.specs.Scales.{is_scale, interval}
use Rattle.linear_scales.specs.Limited.{scales_of}
use Rattle.directory_changes.proofs.Made.{is-patch, is-grow, grows}
use Rattle.directory_changes.proofs.making.change_of_cut.Goals as goal

pub returns-then-cut-clause-change : goal.returns-then-cut-clause-change
returns-then-cut-clause-change g c = λ L e scales later part.
    is-grow L e (scales_of c.args.before.now) (scales_of c.args.after.now) c.args.right_region.now c.cell_box-cells.result c.cell_box-cells.ensures.value c.args.cut c.args.right c.interval.result c.if-cut.true scales later part
    (c.interval.ensures.value ∙ ap (λ (s : List ℕ). interval s c.args.cut.value) c.scale-scale.ensures.boundaries)

pub returns-then-cut-clause-fits : goal.returns-then-cut-clause-fits
returns-then-cut-clause-fits g c = λ later new few.
    grows (scales_of c.args.before.now) (scales_of c.args.after.now) c.args.cut c.interval.result c.cell_box-cells.result
    (omega (arith, c.requires, c.scale-scale.ensures.count, length-map c.args.before.now (λ s. s.boundaries)))
    (subst (λ (s : List ℕ). IsTrue (is_scale s)) c.scale-scale.ensures.boundaries c.interval.ensures.lawful.scale) c.if-cut.true
    (c.interval.ensures.value ∙ ap (λ (s : List ℕ). interval s c.args.cut.value) c.scale-scale.ensures.boundaries) c.cell_box-cells.ensures.corners later new few

pub returns-clause-change : goal.returns-clause-change
returns-clause-change g c = λ L e scales later part.
    is-patch L e (scales_of c.args.before.now) (scales_of c.args.after.now) c.args.right_region.now c.cell_box-cells.result c.cell_box-cells.ensures.value c.args.cut c.args.right c.if-cut.false scales later part
