use Rattle.std.proofs.Common.{ℕ}
use Rattle.grid_model.specs.Lone.{claimed}
use Rattle.durable_updates.proofs.Goings.{there-then}
use Rattle.durable_updates.proofs.Rooms.{room-made}
use Rattle.durable_updates.proofs.making_room.make_room.Goals as goal

pub returns-clause-alone : goal.returns-clause-alone
returns-clause-alone g c = λ m s was.
    let mid = c.make_pages.new.file in
    let new = c.make_slot.new.file in
    let shape = c.args.file.now.books.shape in
    let pages = claimed shape c.args.need s in
    let e = c.in_ok-make_pages.ensures in
    let f = c.make_slot.ensures in
    room-made {K = g.row.K} {D = g.row.D.Denot} g.D.Disk m {U = ℕ} shape c.args.need pages 0 c.make_slot.result mid new (e.alone m s was) e.same.reading.shape (f.alone m pages) f.refused

pub returns-clause-same : goal.returns-clause-same
returns-clause-same g c = there-then {K = g.row.K} {D = g.row.D.Denot} {g = g.D.Disk} c.in_ok-make_pages.ensures.same c.make_slot.ensures.same
