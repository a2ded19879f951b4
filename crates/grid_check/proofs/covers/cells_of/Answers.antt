use Rattle.std.proofs.Common.{◌≡◌, length, sym, subst, ◌∙◌, arith}
use Rattle.std.proofs.lemmas.List.{length-map}
use Rattle.grid_model.specs.Scales.{intervals}
use Rattle.grid_model.specs.Cells.{InCellBox}
use Rattle.linear_scales.specs.Limited.{scales_of}
use Rattle.grid_types.specs.declared.cell_box.CellBox.{CellBox}
use Rattle.grid_check.proofs.Strays.{low_corner}
use Rattle.grid_check.proofs.covers.cells_of.Goals as goal

pub returns-clause-count : goal.returns-clause-count
returns-clause-count g c = sym (c.cell_of.ensures.inside.count ∙ length-map (scales_of c.args.scales.now) intervals) ∙ omega (arith, c.cell_of.type_inv)

pub returns-clause-some : goal.returns-clause-some
returns-clause-some g c = λ region.
    let long : length c.cell_of.result ≡ g.row.K = omega (arith, c.cell_of.type_inv) in
    let count : length (scales_of c.args.scales.now) ≡ g.row.K = sym (c.cell_of.ensures.inside.count ∙ length-map (scales_of c.args.scales.now) intervals) ∙ long in
    let lo = sym c.cell_of.ensures.value in
    let hi = sym c.cell_of-2.ensures.value in
    subst (λ (b : CellBox g.row.K). InCellBox b b.lo) (λ i. record { lo = lo i; hi = hi i }) (low_corner {K = g.row.K} (scales_of c.args.scales.now) c.args.region.now count region)
