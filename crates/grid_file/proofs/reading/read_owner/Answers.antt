use Rattle.std.proofs.Common.{ℕ, ◌∙◌, ap, arith}
use Rattle.grid_types.specs.declared.shape.Shape.{Shape}
use Rattle.grid_types.specs.Pages.{page_of}
use Rattle.grid_types.specs.Shapes.{data_page}
use Rattle.grid_file.proofs.Books.{page_low, page_first, none_found, one_found}
use Rattle.grid_file.proofs.reading.read_owner.Goals as goal

pub returns-in_default-clause-found : goal.returns-in_default-clause-found
returns-in_default-clause-found g c = none_found g.D.Disk c.args.state.now c.args.owner c.args.disk.now c.args.page.now c.in_default.ensures.none

pub data_page-at-requires : goal.data_page-at-requires
data_page-at-requires g c = omega (arith, page_low c.args.state.now c.geometry.ensures.books c.args.owner c.in-Some.data c.in-Some.ensures.found, ap (λ (s : Shape). s.pages) c.geometry.ensures.shape)

pub returns-in_default-read_page-clause-kept : goal.returns-in_default-read_page-clause-kept
returns-in_default-read_page-clause-kept g c = λ k was. c.read_page.ensures.kept g.row.K k was

pub returns-clause-kept : goal.returns-clause-kept
returns-clause-kept g c = λ k was. c.read_page.ensures.kept g.row.K k was

pub returns-clause-found : goal.returns-clause-found
returns-clause-found g c = one_found g.D.Disk c.args.state.now c.args.owner c.args.disk.now c.read_page.new.out c.in-Some.data c.data_page-at.result
    (page_first c.args.state.now c.geometry.ensures.books c.args.owner c.in-Some.data c.in-Some.ensures.found)
    (c.data_page-at.ensures.value ∙ ap (λ (s : Shape). data_page s c.in-Some.data) c.geometry.ensures.shape)
    (λ h. c.in-Ok.ensures.bytes h ∙ ap (λ (n : ℕ). page_of n (g.D.Disk.seen c.args.disk.now)) c.from.ensures)
