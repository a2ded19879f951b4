use Rattle.std.proofs.Common.{◌+◌, ◌*◌, sym, ◌∙◌, subst, arith}
use Rattle.std.proofs.lemmas.Bool.{false≢true}
use Rattle.directory_pages.proofs.CellBoxPatches.{PagePatched, page_unpatched, has_index, no_index, index_passed, index_patched, all_named, all_others, all_cells}
use Rattle.directory_pages.proofs.cell_boxes.patch_cell_box.Goals as goal
use Rattle.directory_pages.proofs.cell_boxes.patch_cell_box.Goals.{then-is_in_cell_box, else-is_in_cell_box}

pub loop-i-init : goal.loop-i-init
loop-i-init g c = page_unpatched c.args.dims.now.intervals c.args.cells.now c.args.part c.args.bucket c.args.page.now c.told-page

pub loop-i-preserved : goal.loop-i-preserved
loop-i-preserved g c =
    let ns = c.args.dims.now.intervals in
    let b = c.args.cells.now in
    let part = c.args.part in
    let i = c.loop-i.i in
    let x = c.args.bucket in
    let first = c.args.page.now in
    let old = c.loop-i.page in
    let at = 1000 * part + i in
    let done = PagePatched ns b part x (i + 1) first in
    elim c.if-is_in_cell_box.branch [
      | then-is_in_cell_box w ↦
          let here = has_index ns b c.cell.result at c.cell.ensures.cell c.cell.ensures.index (c.is_in_cell_box.ensures.0 w.if-is_in_cell_box.true) in
          subst done (sym w.page-is)
          (index_patched ns b part x i first old w.set_bucket.new.page here (omega (arith, c.loop-i-test.true, c.cells_on-i-end.ensures)) (omega arith) w.set_bucket.ensures.written w.set_bucket.array_long
          (λ cells s lt. w.set_bucket.ensures.cells part cells s lt) c.loop-i.invariant)
      | else-is_in_cell_box w ↦
          let out = no_index ns b c.cell.result at c.cell.ensures.only (λ inside. false≢true (sym w.if-is_in_cell_box.false ∙ c.is_in_cell_box.ensures.1 inside)) in
          subst done (sym w.page-is) (index_passed ns b part x i first old out c.loop-i.invariant)
    ]

pub returns-clause-named : goal.returns-clause-named
returns-clause-named g c =
    all_named c.args.dims.now.intervals c.args.cells.now c.args.part c.args.bucket c.loop-i.i c.args.page.now c.loop-i.page (omega (arith, c.loop-i-test.false, c.cells_on-i-end.ensures)) c.loop-i.invariant

pub returns-clause-others : goal.returns-clause-others
returns-clause-others g c =
    all_others c.args.dims.now.intervals c.args.cells.now c.args.part c.args.bucket c.loop-i.i c.args.page.now c.loop-i.page (omega (arith, c.loop-i.auto.i-end, c.cells_on-i-end.ensures)) c.loop-i.invariant

pub returns-clause-cells : goal.returns-clause-cells
returns-clause-cells g c =
    all_cells c.args.dims.now.intervals c.args.cells.now c.args.part c.args.bucket c.loop-i.i c.args.page.now c.loop-i.page (omega (arith, c.loop-i-test.false, c.loop-i.auto.i-end, c.cells_on-i-end.ensures)) c.loop-i.invariant
