use Rattle.std.proofs.Common.{◌≡◌, ◌≤◌, ◌<◌, ◌-◌, sym, arith}
use Rattle.grid_types.specs.Shapes.{area_pages, table_page}
use Rattle.grid_types.specs.FilePages.{HeaderPage, AreaPage}
use Rattle.grid_types.proofs.Places.{table-page}
use Rattle.file_making.proofs.Numbered.{bytes_of_page}
use Rattle.file_making.proofs.pages.content_at.Goals as goal

pub returns-then-number-eq0 : goal.returns-then-number-eq0
returns-then-number-eq0 c = let s = c.args.geometry.now.shape in bytes_of_page s.k s c.args.number (HeaderPage 0) (omega arith) (sym c.if-number-eq0.true)

pub returns-then-number-eq1 : goal.returns-then-number-eq1
returns-then-number-eq1 c = let s = c.args.geometry.now.shape in bytes_of_page s.k s c.args.number (HeaderPage 1) (omega arith) (sym c.if-number-eq1.true)

pub returns-then-number-area_pages : goal.returns-then-number-area_pages
returns-then-number-area_pages c =
    let s = c.args.geometry.now.shape in
    let behind : 2 ≤ c.args.number = omega (arith, c.if-number-eq0.false, c.if-number-eq1.false) in
    let below : c.args.number - 2 < area_pages s = omega (arith, behind, c.if-number-area_pages.true, c.area_pages.ensures.value) in
    let at : table_page s 0 (c.args.number - 2) ≡ c.args.number = omega (arith, behind, (table-page s (c.args.number - 2)).0) in
    bytes_of_page s.k s c.args.number (AreaPage 0 (c.args.number - 2)) (omega arith, below) at
