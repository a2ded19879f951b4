use Rattle.file_books.specs.Effects.{session_books}
use Rattle.checkpoints.proofs.Disks.{keeps-then}
use Rattle.checkpoints.proofs.Standing.{standing-then}
use Rattle.file_opening.proofs.Redone.{after-ok}
use Rattle.file_opening.proofs.renewing.root_anew.Goals as goal

pub returns-clause-moments : goal.returns-clause-moments
returns-clause-moments g c = λ m w.
    standing-then {K = g.row.K} {D = g.row.D.Denot} g.D.Disk m c.in-Ok.ensures.changes.honest (c.in-Ok.ensures.moments m w) (c.checkpoint.ensures.moments m (c.in-Ok.ensures.stands m w))

pub returns-clause-books : goal.returns-clause-books
returns-clause-books g c = after-ok c.checkpoint.result c.settle.new.state c.checkpoint.new.state (session_books c.args.state.now) c.checkpoint.ensures.books c.in-Ok.ensures.books

pub returns-clause-changes : goal.returns-clause-changes
returns-clause-changes g c = keeps-then {D = g.row.D.Denot} c.in-Ok.ensures.changes c.checkpoint.ensures.changes
