use Rattle.file_sections.proofs.Closing.{part_shown, part_meets}
use Rattle.file_sections.proofs.roots.write_part.Goals as goal

pub returns-clause-moments : goal.returns-clause-moments
returns-clause-moments g c = λ k at was.
    let e = c.write_area_page.ensures in
    part_shown k c.args.geometry.now.shape c.args.root.now.number c.args.i at c.requires.inside e.changes was (g.met.D.Disk.seen_now c.args.disk.now) e.ready

pub returns-clause-kept : goal.returns-clause-kept
returns-clause-kept g c = λ k at was.
    let e = c.write_area_page.ensures in
    part_meets k c.args.geometry.now.shape c.args.root.now.number c.args.i at c.requires.inside e.changes was (g.met.D.Disk.seen_now c.args.disk.now) e.awaits
