use Rattle.file_sections.proofs.Closing.{closing_shown, closing_closed, closing_again}
use Rattle.file_sections.proofs.roots.close_root.Goals as goal

pub returns-clause-moments : goal.returns-clause-moments
returns-clause-moments g c = λ K k at was.
    let e = c.close_root.ensures in
    closing_shown k c.args.geometry.now.shape c.args.number at c.close_root.result e.changes was (g.met.D.Disk.seen_now c.args.disk.now) e.unwritten e.replaceable

pub returns-clause-closed : goal.returns-clause-closed
returns-clause-closed g c = λ K k at was.
    let e = c.close_root.ensures in
    closing_closed k c.args.geometry.now.shape c.args.number at c.close_root.result e.changes was (g.met.D.Disk.seen_now c.args.disk.now) e.unwritten e.awaits

pub returns-clause-again : goal.returns-clause-again
returns-clause-again g c = λ K k at was.
    let e = c.close_root.ensures in
    closing_again k c.args.geometry.now.shape c.args.number at c.close_root.result e.changes was (g.met.D.Disk.seen_now c.args.disk.now) e.unwritten e.again
