use Rattle.std.proofs.Common.{◌*◌}
use Rattle.file_roots.proofs.Slices.{part_until}
use Rattle.file_roots.proofs.area_pages.entries_on.Goals as goal

pub returns : goal.returns
returns c = part_until c.args.table.now (1000 * c.args.index) 1000 c.min-from.result c.min-to.result c.min-from.ensures c.min-to.ensures
