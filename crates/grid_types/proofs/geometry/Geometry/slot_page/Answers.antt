use Rattle.std.proofs.Common.{arith}
use Rattle.grid_types.specs.Halves.{half_number}
use Rattle.grid_types.proofs.HalvesLemmas.{half_small}
use Rattle.grid_types.proofs.Places.{within-limits, slot-page-lies}
use Rattle.grid_types.proofs.geometry.Geometry.slot_page.Goals as goal

pub overflow_add-result-2 : goal.overflow_add-result-2
overflow_add-result-2 c = let w = within-limits c.args.self.now.shape c.args.self.now.lawful in omega (arith, w.few_slots, c.requires, c.gate_page.ensures.small)

pub returns-clause-value : goal.returns-clause-value
returns-clause-value c = let l = slot-page-lies c.args.self.now.shape (half_number c.args.half) c.args.i c.args.self.now.lawful (half_small c.args.half) c.requires in omega (arith, l.value, c.gate_page.ensures.value)

pub returns-clause-inside : goal.returns-clause-inside
returns-clause-inside c = let l = slot-page-lies c.args.self.now.shape (half_number c.args.half) c.args.i c.args.self.now.lawful (half_small c.args.half) c.requires in omega (arith, l.value, l.inside, c.gate_page.ensures.value)
