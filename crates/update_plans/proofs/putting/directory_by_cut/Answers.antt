use Rattle.std.proofs.Common.{◌≤◌, List, ℕ, sym, ap, subst, ◌∙◌}
use Rattle.grid_types.specs.declared.region.Region.{Region}
use Rattle.grid_types.specs.declared.sizes.TheConstants.{MOST_CELLS}
use Rattle.grid_types.specs.Regions.{part_from}
use Rattle.grid_model.specs.Cells.{cells}
use Rattle.grid_model.specs.Notes.{scales_after}
use Rattle.update_plans.proofs.Cuts.{not-false, not-refused, refined-after}
use Rattle.update_plans.proofs.putting.directory_by_cut.Goals as goal

pub unreachable-requires : goal.unreachable-requires
unreachable-requires g c =
    not-refused c.args.scales.now c.copy_from.new.self c.args.cut.attribute c.args.cut.value c.in-Err.field-0 c.copy_from.ensures
    (λ d. c.requires.room d (not-false c.args.cut.fresh c.if-not-cut.false)) c.in-Err.ensures.refused

pub returns-clause-change : goal.returns-clause-change
returns-clause-change g c = λ L e same here.
    let cut = c.args.cut in
    let later = refined-after c.args.scales.now c.copy_from.new.self c.refine.new.self cut c.copy_from.ensures (not-false cut.fresh c.if-not-cut.false) c.in-Ok.ensures.scales in
    c.change_of_cut-2.ensures.change L e same (later ∙ ap (λ (s : List (List ℕ)). scales_after s cut) (sym same))
    (c.cut-right_region.ensures.from ∙ ap (λ (r : Region g.row.K). part_from r cut.attribute cut.value) here)

pub returns-clause-fits : goal.returns-clause-fits
returns-clause-fits g c =
    let cut = c.args.cut in
    let later = refined-after c.args.scales.now c.copy_from.new.self c.refine.new.self cut c.copy_from.ensures (not-false cut.fresh c.if-not-cut.false) c.in-Ok.ensures.scales in
    c.change_of_cut-2.ensures.fits later c.requires.fresh (subst (λ (s : List (List ℕ)). cells s ≤ MOST_CELLS) (sym later) c.requires.few)
