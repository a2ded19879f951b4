use Rattle.std.proofs.Common.{◌<◌, ◌∙◌, sym, ap, arith, subst}
use Rattle.grid_types.specs.Shapes.{word_pages}
use Rattle.grid_model.specs.Lists.{product, is_among}
use Rattle.grid_model.proofs.Counts.{range-among}
use Rattle.directory_changes.specs.Changes.{IsChangeOf, HasCorners, parts_after, parts_changed, parts_of_box, grown}
use Rattle.directory_changes.specs.declared.change.DirectoryChange.{DirectoryChange}
use Rattle.directory_changes.proofs.Among.{part-holds, holds-part}
use Rattle.directory_changes.proofs.Truths.{same-truth}
use Rattle.directory_changes.proofs.parts.is_changed.Goals as goal

pub returns-in-Nothing : goal.returns-in-Nothing
unfolding parts_changed
returns-in-Nothing g c = ap (λ (x : DirectoryChange g.row.K). is_among (parts_changed c.args.dims.now.intervals x) c.args.part) (sym c.in-Nothing.is)

pub returns-in-Patch : goal.returns-in-Patch
unfolding parts_changed
returns-in-Patch g c =
    let ns = c.args.dims.now.intervals in
    let b = c.in-Patch.cells in
    let corners : HasCorners {K = g.row.K} ns b = subst (λ (x : DirectoryChange g.row.K). IsChangeOf ns x) c.in-Patch.is c.requires.change in
    same-truth c.holds_cell.result (is_among (parts_of_box {K = g.row.K} ns b) c.args.part) c.holds_cell.ensures (part-holds ns b corners c.args.part, holds-part ns b corners c.args.part)
    ∙ ap (λ (x : DirectoryChange g.row.K). is_among (parts_changed ns x) c.args.part) (sym c.in-Patch.is)

pub returns-in-Grow : goal.returns-in-Grow
unfolding parts_changed
returns-in-Grow g c =
    let ns = c.args.dims.now.intervals in
    let few = subst (λ (x : DirectoryChange g.row.K). c.args.part < parts_after ns x) c.in-Grow.is c.requires.inside in
    sym (range-among 0 (word_pages (product (grown ns c.in-Grow.attribute))) c.args.part (omega arith) (omega (arith, few)))
    ∙ ap (λ (x : DirectoryChange g.row.K). is_among (parts_changed ns x) c.args.part) (sym c.in-Grow.is)
