use Rattle.grid_types.proofs.Places.{within-limits}
use Rattle.durable_updates.proofs.Roots.{open-at, stays-here, step-stays, step-claims, step-slot}
use Rattle.durable_updates.proofs.root_steps.step_root.Goals as goal

pub returns-then-number-ge-WORN-clause-moments : goal.returns-then-number-ge-WORN-clause-moments
returns-then-number-ge-WORN-clause-moments g c = λ m. stays-here {K = g.row.K} {D = g.row.D.Denot} g.D.Disk m c.args.file.now.books c.args.file.now.disk (λ x told left. g.met.D.Disk.only_now c.args.file.now.disk x told left)

pub returns-clause-moments : goal.returns-clause-moments
returns-clause-moments g c = λ m o. c.checkpoint.ensures.moments m (open-at {K = g.row.K} {D = g.row.D.Denot} g.D.Disk m c.args.file.now.books c.args.file.now.disk o)

pub returns-clause-stays : goal.returns-clause-stays
returns-clause-stays g c = λ m. step-stays {K = g.row.K} {D = g.row.D.Denot} g.D.Disk m c.checkpoint.result c.args.file.now.books c.checkpoint.new.self.books c.args.file.now.disk c.checkpoint.new.self.disk (c.checkpoint.ensures.stands m) (c.checkpoint.ensures.behind m)

pub returns-clause-claims : goal.returns-clause-claims
returns-clause-claims g c = step-claims c.checkpoint.result c.args.file.now.books c.checkpoint.new.self.books c.checkpoint.ensures.books

pub returns-clause-slot : goal.returns-clause-slot
returns-clause-slot g c =
    let books = c.state.ensures.sound.books_are in
    let limits = within-limits c.args.file.now.books.shape books.lawful in
    step-slot c.checkpoint.result c.args.file.now.books c.checkpoint.new.self.books c.checkpoint.ensures.books books.ranges limits.some_slots
