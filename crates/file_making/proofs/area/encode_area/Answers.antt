use Rattle.std.proofs.Common.{arith}
use Rattle.grid_types.proofs.Places.{within-limits}
use Rattle.file_making.proofs.area.encode_area.Goals as goal

pub encode_buckets-requires-clause-some : goal.encode_buckets-requires-clause-some
encode_buckets-requires-clause-some c = omega (arith, (within-limits c.args.geometry.now.shape c.args.geometry.now.lawful).some_pages)
