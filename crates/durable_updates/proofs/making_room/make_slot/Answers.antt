use Rattle.durable_updates.proofs.Rooms.{slot-made}
use Rattle.durable_updates.proofs.making_room.make_slot.Goals as goal

pub returns-clause-alone : goal.returns-clause-alone
returns-clause-alone g c = λ m s was.
    let new = c.step_if.new.file in
    slot-made {K = g.row.K} {D = g.row.D.Denot} g.D.Disk c.args.file.now.books m s c.args.file.now.disk was c.step_if.result new.books new.disk c.lacks_slot-due.result c.state.result.now c.state.ensures.books c.lacks_slot-due.ensures.full (c.step_if.ensures.alone m s was)
