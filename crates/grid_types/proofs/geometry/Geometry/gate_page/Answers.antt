use Rattle.std.proofs.Common.{ap, arith}
use Rattle.grid_types.specs.Shapes.{gate_page}
use Rattle.grid_types.specs.Halves.{half_number}
use Rattle.grid_types.proofs.Places.{within-limits, gate-page, gate-page-lies}
use Rattle.grid_types.proofs.geometry.Geometry.gate_page.Goals as goal

pub overflow_add-result-in-Second-2 : goal.overflow_add-result-in-Second-2
overflow_add-result-in-Second-2 c = let w = within-limits c.args.self.now.shape c.args.self.now.lawful in omega (arith, w.few_slots, c.area_pages-pages.ensures.small)

pub returns-in-First-clause-value : goal.returns-in-First-clause-value
returns-in-First-clause-value c = let g = gate-page c.args.self.now.shape in omega (arith, g.0, ap (λ h. gate_page c.args.self.now.shape (half_number h)) c.in-First.is, c.area_pages-pages.ensures.value)

pub returns-in-First-clause-inside : goal.returns-in-First-clause-inside
returns-in-First-clause-inside c = let g = gate-page c.args.self.now.shape in let l = gate-page-lies c.args.self.now.shape 0 c.args.self.now.lawful (omega arith) in omega (arith, g.0, l.inside, c.area_pages-pages.ensures.value)

pub returns-in-Second-clause-value : goal.returns-in-Second-clause-value
returns-in-Second-clause-value c = let g = gate-page c.args.self.now.shape in omega (arith, g.1, ap (λ h. gate_page c.args.self.now.shape (half_number h)) c.in-Second.is, c.area_pages-pages.ensures.value)

pub returns-in-Second-clause-inside : goal.returns-in-Second-clause-inside
returns-in-Second-clause-inside c = let g = gate-page c.args.self.now.shape in let l = gate-page-lies c.args.self.now.shape 1 c.args.self.now.lawful (omega arith) in omega (arith, g.1, l.inside, c.area_pages-pages.ensures.value)

pub returns-in-Second-clause-small : goal.returns-in-Second-clause-small
returns-in-Second-clause-small c = let w = within-limits c.args.self.now.shape c.args.self.now.lawful in omega (arith, w.few_slots, c.area_pages-pages.ensures.small)
