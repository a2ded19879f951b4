use Rattle.std.proofs.Common.{arith}
use Rattle.grid_types.specs.Shapes.{slot_gate_at}
use Rattle.grid_types.proofs.Places.{within-limits}
use Rattle.journal_slots.proofs.sections.gate_at.Goals as goal

pub returns-clause-value : goal.returns-clause-value
unfolding slot_gate_at
returns-clause-value c = omega (arith, c.gate_page.ensures.value)

pub returns-clause-inside : goal.returns-clause-inside
returns-clause-inside c = omega (arith, c.gate_page.ensures.inside, c.requires.inside, (within-limits c.args.geometry.now.shape c.args.geometry.now.lawful).few_slots)

pub returns-clause-in_page : goal.returns-clause-in_page
returns-clause-in_page c = omega (arith, c.requires.inside, (within-limits c.args.geometry.now.shape c.args.geometry.now.lawful).few_slots)

pub returns-clause-few : goal.returns-clause-few
returns-clause-few c = (within-limits c.args.geometry.now.shape c.args.geometry.now.lawful).few_slots
