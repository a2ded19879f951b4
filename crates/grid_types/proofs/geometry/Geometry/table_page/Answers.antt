use Rattle.std.proofs.Common.{◌≡◌, ap, arith}
use Rattle.grid_types.specs.Shapes.{table_page}
use Rattle.grid_types.proofs.Places.{table-page, table-page-lies}
use Rattle.grid_types.proofs.geometry.Geometry.table_page.Goals as goal

pub returns-then-area-eq0-clause-value : goal.returns-then-area-eq0-clause-value
returns-then-area-eq0-clause-value c = let t = table-page c.args.self.now.shape c.args.i in omega (arith, t.0, ap (λ n. table_page c.args.self.now.shape n c.args.i) c.if-area-eq0.true)

pub returns-then-area-eq0-clause-inside : goal.returns-then-area-eq0-clause-inside
returns-then-area-eq0-clause-inside c =
    let t = table-page c.args.self.now.shape c.args.i in
    let l = table-page-lies c.args.self.now.shape 0 c.args.i c.args.self.now.lawful (omega arith) c.requires.inside in omega (arith, t.0, l.inside)

pub returns-else-area-eq0-clause-value : goal.returns-else-area-eq0-clause-value
returns-else-area-eq0-clause-value c =
    let t = table-page c.args.self.now.shape c.args.i in
    let one : c.args.area ≡ 1 = omega (arith, c.requires.two, c.if-area-eq0.false) in
    omega (arith, t.1, ap (λ n. table_page c.args.self.now.shape n c.args.i) one, c.area_pages-pages.ensures.value)

pub returns-else-area-eq0-clause-inside : goal.returns-else-area-eq0-clause-inside
returns-else-area-eq0-clause-inside c =
    let t = table-page c.args.self.now.shape c.args.i in
    let l = table-page-lies c.args.self.now.shape 1 c.args.i c.args.self.now.lawful (omega arith) c.requires.inside in omega (arith, t.1, l.inside, c.area_pages-pages.ensures.value)
