use Rattle.std.proofs.Common.{◌∙◌, sym, arith}
use Rattle.grid_types.specs.FilePages.{GatePage, DataPage}
use Rattle.grid_types.proofs.Places.{within-limits}
use Rattle.file_making.proofs.Numbered.{bytes_of_page, zeros_else}
use Rattle.file_making.proofs.pages.content_behind.Goals as goal

pub data_page-requires : goal.data_page-requires
data_page-requires c = omega (arith, (within-limits c.args.geometry.now.shape c.args.geometry.now.lawful).some_pages)

pub data_page-requires-else-number-data_page : goal.data_page-requires-else-number-data_page
data_page-requires-else-number-data_page c = omega (arith, (within-limits c.args.geometry.now.shape c.args.geometry.now.lawful).some_pages)

pub returns-then-number-gate_page : goal.returns-then-number-gate_page
returns-then-number-gate_page c =
    let s = c.args.geometry.now.shape in
    bytes_of_page s.k s c.args.number (GatePage 0) (omega arith) (omega (arith, c.if-number-gate_page.true, c.gate_page.ensures.value))

pub returns-then-number-gate_page-2 : goal.returns-then-number-gate_page-2
returns-then-number-gate_page-2 c =
    let s = c.args.geometry.now.shape in
    bytes_of_page s.k s c.args.number (GatePage 1) (omega arith) (omega (arith, c.if-number-gate_page-2.true, c.gate_page-else-number-gate_page.ensures.value))

pub returns-then-number-data_page : goal.returns-then-number-data_page
returns-then-number-data_page c =
    let s = c.args.geometry.now.shape in
    let w = within-limits s c.args.geometry.now.lawful in
    bytes_of_page s.k s c.args.number (DataPage 0) (omega (arith, w.some_pages)) (omega (arith, c.if-number-data_page.true, c.data_page.ensures.value))

pub returns-then-number-data_page-2 : goal.returns-then-number-data_page-2
returns-then-number-data_page-2 c =
    let s = c.args.geometry.now.shape in
    let w = within-limits s c.args.geometry.now.lawful in
    bytes_of_page s.k s c.args.number (DataPage 1) (omega (arith, w.some_pages)) (omega (arith, c.if-number-data_page-2.true, c.data_page-else-number-data_page.ensures.value))

pub returns-else-number-data_page-2 : goal.returns-else-number-data_page-2
returns-else-number-data_page-2 c =
    let s = c.args.geometry.now.shape in
    zeros_else s.k s c.args.number c.requires.behind
    (λ e. c.if-number-gate_page.false (e ∙ sym c.gate_page.ensures.value))
    (λ e. c.if-number-gate_page-2.false (e ∙ sym c.gate_page-else-number-gate_page.ensures.value))
    (λ e. c.if-number-data_page.false (e ∙ sym c.data_page.ensures.value))
    (λ e. c.if-number-data_page-2.false (e ∙ sym c.data_page-else-number-data_page.ensures.value))
