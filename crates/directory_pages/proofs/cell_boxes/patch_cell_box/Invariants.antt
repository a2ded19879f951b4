use Rattle.directory_pages.proofs.CellBoxPatches.{PagePatched}
use Rattle.directory_pages.proofs.cell_boxes.patch_cell_box.Given as goal

abbrev pub invariant-loop-i : goal.invariant-loop-i
invariant-loop-i g l = PagePatched l.dims.intervals l.cells l.part l.bucket l.i l.initial.page l.page
