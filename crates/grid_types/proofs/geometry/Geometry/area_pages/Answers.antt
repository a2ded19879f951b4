use Rattle.std.proofs.Common.{arith}
use Rattle.grid_types.proofs.Places.{within-limits, area-small}
use Rattle.grid_types.proofs.geometry.Geometry.area_pages.Goals as goal

pub overflow_add-result : goal.overflow_add-result
overflow_add-result c = let w = within-limits c.args.self.now.shape c.args.self.now.lawful in omega (arith, w.few_pages)

pub returns-clause-small : goal.returns-clause-small
returns-clause-small c = area-small c.args.self.now.shape c.args.self.now.lawful
