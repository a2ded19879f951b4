use Rattle.durable_updates.proofs.Goings.{there-none}
use Rattle.durable_updates.proofs.Rooms.{step-due, step-swept, step-free}
use Rattle.durable_updates.proofs.making_room.step_if.Goals as goal

pub returns-then-due-clause-alone : goal.returns-then-due-clause-alone
returns-then-due-clause-alone g c = λ m s was.
    let old = c.args.file.now in
    let new = c.step_root.new.file in
    let e = c.step_root.ensures in
    step-due {K = g.row.K} {D = g.row.D.Denot} g.D.Disk m s c.args.due c.step_root.result new.books new.disk c.if-due.true
    (step-swept {K = g.row.K} {D = g.row.D.Denot} g.D.Disk m s c.step_root.result old.books new.books old.disk new.disk was (e.alone m s) e.books e.claims)

pub returns-then-due-clause-free : goal.returns-then-due-clause-free
returns-then-due-clause-free g c = step-free c.step_root.result c.args.file.now.books c.step_root.new.file.books c.step_root.ensures.books

pub returns-else-due-clause-same : goal.returns-else-due-clause-same
returns-else-due-clause-same g c = there-none {K = g.row.K} {D = g.row.D.Denot} {g = g.D.Disk} c.args.file.now c.requires.none (λ x told left. g.met.D.Disk.only_now c.args.file.now.disk x told left)
