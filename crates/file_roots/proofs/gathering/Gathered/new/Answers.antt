use Rattle.std.proofs.Common.{arith}
use Rattle.grid_types.proofs.Places.{within-limits}
use Rattle.file_roots.proofs.Beginning.{has_room, nothing_gathered}
use Rattle.file_roots.proofs.gathering.Gathered.new.Goals as goal

pub overflow_cast-geometry : goal.overflow_cast-geometry
overflow_cast-geometry g c = omega (arith, (within-limits c.args.geometry.now.shape c.args.geometry.now.lawful).few_boundaries)

pub returns-clause-room : goal.returns-clause-room
returns-clause-room g c = has_room c.args.geometry.now.shape (record { scales = c.in_ok-scales.scales; parts = c.new-2.result; table = c.new-3.result; marks = c.in_ok-marks.marks }) c.in_ok-scales.ensures c.new-2.ensures c.new-3.ensures (c.in_ok-marks.ensures.items_if_clones_equal (λ y e. e))

pub returns-clause-empty : goal.returns-clause-empty
returns-clause-empty g c = λ image r root. nothing_gathered c.args.geometry.now.shape (record { scales = c.in_ok-scales.scales; parts = c.new-2.result; table = c.new-3.result; marks = c.in_ok-marks.marks }) c.in_ok-scales.ensures c.new-2.ensures c.new-3.ensures (c.in_ok-marks.ensures.items_if_clones_equal (λ y e. e)) image r c.requires root
