use Rattle.std.proofs.Common.{arith}
use Rattle.grid_types.proofs.Places.{within-limits, data-page-lies}
use Rattle.grid_types.proofs.geometry.Geometry.data_page.Goals as goal

pub overflow_mul-result-2 : goal.overflow_mul-result-2
overflow_mul-result-2 c = let w = within-limits c.args.self.now.shape c.args.self.now.lawful in omega (arith, w.few_slots)

pub overflow_add-result-2 : goal.overflow_add-result-2
overflow_add-result-2 c = let w = within-limits c.args.self.now.shape c.args.self.now.lawful in omega (arith, w.few_slots, c.area_pages.ensures.small)

pub overflow_add-result-3 : goal.overflow_add-result-3
overflow_add-result-3 c = let w = within-limits c.args.self.now.shape c.args.self.now.lawful in omega (arith, w.few_slots, w.few_pages, c.requires, c.area_pages.ensures.small)

pub returns-clause-value : goal.returns-clause-value
returns-clause-value c = let d = data-page-lies c.args.self.now.shape c.args.i c.requires in omega (arith, d.value, c.area_pages.ensures.value)

pub returns-clause-inside : goal.returns-clause-inside
returns-clause-inside c = let d = data-page-lies c.args.self.now.shape c.args.i c.requires in omega (arith, d.value, d.inside, c.area_pages.ensures.value)
