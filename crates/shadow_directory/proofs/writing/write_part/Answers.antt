use Rattle.std.proofs.Common.{◌≡◌, ◌<◌, None, ap, sym, arith, subst, rules}
use Rattle.std.specs.Prelude.{OnOk}
use Rattle.grid_model.specs.Lists.{product}
use Rattle.directory_changes.specs.Changes.{IsChangeOf, parts_after}
use Rattle.directory_changes.specs.declared.change.DirectoryChange.{DirectoryChange}
use Rattle.directory_changes.proofs.Counted.{changed-below}
use Rattle.shadow_directory.specs.Pages.{Ticks}
use Rattle.shadow_directory.specs.Reads.{part_reads, held_after}
use Rattle.shadow_directory.specs.WrittenParts.{WritesPart}
use Rattle.shadow_directory.proofs.Faults.{ok-there}
use Rattle.shadow_directory.proofs.Written.{nothing-changed}
use Rattle.shadow_directory.proofs.writing.write_part.Goals as goal

pub unreachable-requires : goal.unreachable-requires
unreachable-requires g c = nothing-changed c.args.dims.now.intervals c.args.change.now c.args.part c.in-Nothing.is c.requires.changed

pub patch_part-requires : goal.patch_part-requires
patch_part-requires g c =
    let below = subst (λ (x : DirectoryChange g.row.K). c.args.part < parts_after c.args.dims.now.intervals x) c.in-Patch.is (changed-below c.args.dims.now.intervals c.args.change.now c.args.part c.requires.changed) in
    (search rules, (search rules, (omega (arith, below), (c.requires.parts, c.requires.room))))

pub grow_part-requires : goal.grow_part-requires
grow_part-requires g c =
    let below = subst (λ (x : DirectoryChange g.row.K). c.args.part < parts_after c.args.dims.now.intervals x) c.in-Grow.is (changed-below c.args.dims.now.intervals c.args.change.now c.args.part c.requires.changed) in
    (search rules, (search rules, (omega (arith, below, ap product c.refined-new.ensures), (subst (λ (x : DirectoryChange g.row.K). IsChangeOf c.args.dims.now.intervals x) c.in-Grow.is c.requires.change, (c.refined-new.ensures, (c.requires.parts, (c.requires.room, c.requires.held)))))))

pub returns-in-Patch-clause-writes : goal.returns-in-Patch-clause-writes
returns-in-Patch-clause-writes g c =
    subst (λ (x : DirectoryChange g.row.K). WritesPart g.P.ChangePages c.args.dims.now.intervals x c.args.part c.patch_part.result c.args.pages.now c.patch_part.new.pages c.patch_part.new.room.old_page) (sym c.in-Patch.is) c.patch_part.ensures.writes

pub returns-in-Patch-clause-last : goal.returns-in-Patch-clause-last
returns-in-Patch-clause-last g c = ok-there c.patch_part.result (None ≡ held_after c.args.dims.now.intervals c.args.change.now c.args.held.now c.args.part)
    (ap (λ (x : DirectoryChange g.row.K). held_after c.args.dims.now.intervals x c.args.held.now c.args.part) (sym c.in-Patch.is))

pub returns-in-Patch-clause-ticks : goal.returns-in-Patch-clause-ticks
returns-in-Patch-clause-ticks g c =
    subst (λ (x : DirectoryChange g.row.K). Ticks (part_reads c.args.dims.now.intervals x c.args.held.now c.args.part) c.args.steps.now c.patch_part.new.steps c.patch_part.result) (sym c.in-Patch.is) c.patch_part.ensures.ticks

pub returns-in-Grow-clause-writes : goal.returns-in-Grow-clause-writes
returns-in-Grow-clause-writes g c =
    subst (λ (x : DirectoryChange g.row.K). WritesPart g.P.ChangePages c.args.dims.now.intervals x c.args.part c.grow_part.result c.args.pages.now c.grow_part.new.pages c.grow_part.new.room.old_page) (sym c.in-Grow.is) c.grow_part.ensures.writes

pub returns-in-Grow-clause-last : goal.returns-in-Grow-clause-last
returns-in-Grow-clause-last g c =
    subst (λ (x : DirectoryChange g.row.K). OnOk c.grow_part.result (c.grow_part.new.held ≡ held_after c.args.dims.now.intervals x c.args.held.now c.args.part)) (sym c.in-Grow.is) c.grow_part.ensures.last

pub returns-in-Grow-clause-ticks : goal.returns-in-Grow-clause-ticks
returns-in-Grow-clause-ticks g c =
    subst (λ (x : DirectoryChange g.row.K). Ticks (part_reads c.args.dims.now.intervals x c.args.held.now c.args.part) c.args.steps.now c.grow_part.new.steps c.grow_part.result) (sym c.in-Grow.is) c.grow_part.ensures.ticks
