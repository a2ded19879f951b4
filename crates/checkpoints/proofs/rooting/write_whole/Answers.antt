use Rattle.checkpoints.proofs.Areas.{area-shown, area-meets, area-loose}
use Rattle.checkpoints.proofs.Disks.{range-keeps}
use Rattle.checkpoints.proofs.rooting.write_whole.Goals as goal

pub returns-clause-moments : goal.returns-clause-moments
returns-clause-moments g c = λ k tried at was.
    let e = c.write_area.ensures in
    area-shown k c.args.geometry.now.shape c.args.root.now.number at e.changes was g.met.D.Disk.seen_now tried e.ready

pub returns-clause-kept : goal.returns-clause-kept
returns-clause-kept g c = λ k at was.
    let e = c.write_area.ensures in
    area-meets k c.args.geometry.now.shape c.args.root.now.number at e.changes was g.met.D.Disk.seen_now e.awaits

pub returns-clause-loose : goal.returns-clause-loose
returns-clause-loose g c = λ k tried at was.
    let e = c.write_area.ensures in
    area-loose k c.args.geometry.now.shape c.args.root.now.number at e.changes was g.met.D.Disk.seen_now tried e.awaits

pub returns-clause-changes : goal.returns-clause-changes
returns-clause-changes g c = range-keeps c.write_area.ensures.changes
