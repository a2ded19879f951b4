use Rattle.root_pages.specs.Fields.{model_fields}
use Rattle.file_sections.proofs.Finishing.{finishing_shown, finishing_rooted, finishing_again}
use Rattle.file_sections.proofs.roots.finish_root.Goals as goal

pub returns-clause-moments : goal.returns-clause-moments
returns-clause-moments g c = λ K k new at reads was.
    let e = c.write_header.ensures in
    finishing_shown k c.args.geometry.now.shape (model_fields c.args.fields.now) new at c.write_header.result e.changes was (g.met.D.Disk.seen_now c.args.disk.now) reads e.replaceable

pub returns-clause-rooted : goal.returns-clause-rooted
returns-clause-rooted g c = λ K k new at reads was.
    let e = c.write_header.ensures in
    finishing_rooted k c.args.geometry.now.shape (model_fields c.args.fields.now) new at c.write_header.result e.changes was (g.met.D.Disk.seen_now c.args.disk.now) reads e.newest e.durable

pub returns-clause-again : goal.returns-clause-again
returns-clause-again g c = λ K k new at reads was.
    let e = c.write_header.ensures in
    finishing_again k c.args.geometry.now.shape (model_fields c.args.fields.now) new at c.write_header.result e.changes was (g.met.D.Disk.seen_now c.args.disk.now) reads e.again
