use Rattle.std.proofs.Common.{arith}
use Rattle.directory_pages.specs.Spelling.{SpellsPart}
use Rattle.directory_changes.specs.declared.change.DirectoryChange.TheVariants.{Patch}
use Rattle.shadow_directory.specs.Directories.{part_of}
use Rattle.shadow_directory.proofs.PartWritten.{part-failed, part-ended}
use Rattle.shadow_directory.proofs.Patched.{patched-from}
use Rattle.shadow_directory.proofs.Read.{ticks-done, ticks-failed}
use Rattle.shadow_directory.proofs.Spelled.{told-spells, length-part}
use Rattle.shadow_directory.proofs.patching.patch_part.Goals as goal

pub returns-in_err-read_old-clause-writes : goal.returns-in_err-read_old-clause-writes
returns-in_err-read_old-clause-writes g c =
    part-failed {K = g.row.K} c.args.dims.now.intervals (Patch c.args.cells.now c.args.bucket) c.args.part c.args.pages.now c.read_old.new.pages c.read_old.new.page c.from_residual.result _ c.from_residual.ensures.1 c.in_err-read_old.ensures.reads

pub returns-in_err-read_old-clause-ticks : goal.returns-in_err-read_old-clause-ticks
returns-in_err-read_old-clause-ticks g c = ticks-failed 1 c.args.steps.now c.read_old.new.steps c.from_residual.result _ c.from_residual.ensures.1 c.in_err-read_old.ensures.ticks.least c.in_err-read_old.ensures.ticks.most

pub returns-clause-writes : goal.returns-clause-writes
returns-clause-writes g c =
    let ns = c.args.dims.now.intervals in
    let part = c.args.part in
    let read = c.in_ok-read_old.ensures in
    let put = c.write_page.ensures in
    let page = c.patch_cell_box.new.page in
    part-ended {K = g.row.K} ns (Patch c.args.cells.now c.args.bucket) part c.args.pages.now c.write_page.new.pages page c.write_page.result g.met.P.ChangePages.stays_on c.read_old.new.pages page read.reads.same
    (λ D after tells is.
    let before : SpellsPart part c.read_old.new.page (part_of D part) = told-spells ns D tells.given part c.read_old.new.page tells.spell c.requires.part (omega arith) (read.bytes tells.given tells.told) in
    (c.patch_cell_box.ensures.cells (part_of D part) after before (length-part ns D part tells.spell.count) (patched-from ns D after c.args.cells.now part c.args.bucket tells.spell.count is)).bytes)
    put.written put.began put.left put.same put.fault (put.cause ns page)

pub returns-clause-ticks : goal.returns-clause-ticks
returns-clause-ticks g c = ticks-done 1 c.args.steps.now c.read_old.new.steps c.write_page.result c.in_ok-read_old.ensures.ticks.all
