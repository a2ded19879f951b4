use Rattle.std.proofs.Common.{sym, subst, ◌≤◌, ◌*◌, arith}
use Rattle.grid_types.specs.declared.shape.Shape.{Shape}
use Rattle.grid_types.specs.declared.sizes.TheConstants.{PAGE_BYTES}
use Rattle.grid_types.specs.Shapes.{file_pages}
use Rattle.file_books.specs.Effects.{session_books}
use Rattle.checkpoints.proofs.Disks.{keeps-then}
use Rattle.checkpoints.proofs.Standing.{standing-then}
use Rattle.file_opening.proofs.Renewed.{rooted-shape, renewed-next, reopened-alone}
use Rattle.file_opening.proofs.renewing.renew.Goals as goal

pub clear_journal-requires : goal.clear_journal-requires
clear_journal-requires g c =
    let first = c.in_ok-root_anew.ensures in
    let same = rooted-shape (session_books c.args.state.now) c.root_anew.new.state first.books in
    (omega arith, subst (λ (s : Shape). file_pages s * PAGE_BYTES ≤ g.D.Disk.extent c.root_anew.new.disk) (sym same) (omega (arith, c.requires.size, first.changes.extent)))

pub returns-in-Ok-clause-moments : goal.returns-in-Ok-clause-moments
returns-in-Ok-clause-moments g c = λ m w.
    let first = c.in_ok-root_anew.ensures in
    standing-then {K = g.row.K} {D = g.row.D.Denot} g.D.Disk m first.changes.honest (first.moments m w) (c.in-Ok.ensures.moments m (first.rooted m w))

pub returns-in-Err-clause-moments : goal.returns-in-Err-clause-moments
returns-in-Err-clause-moments g c = λ m w.
    let first = c.in_ok-root_anew.ensures in
    standing-then {K = g.row.K} {D = g.row.D.Denot} g.D.Disk m first.changes.honest (first.moments m w) (c.in-Err.ensures.moments m (first.rooted m w))

pub returns-in-Ok-clause-reopened : goal.returns-in-Ok-clause-reopened
returns-in-Ok-clause-reopened g c = λ m w.
    let first = c.in_ok-root_anew.ensures in
    let last = c.in-Ok.ensures in
    reopened-alone {K = g.row.K} {D = g.row.D.Denot} g.D.Disk m c.clear_journal.new.disk (session_books c.args.state.now) c.root_anew.new.state c.clear_journal.new.state first.books last.books w.redoing.agree.two w.unclaimed (last.stands m (first.rooted m w))

pub returns-in-Ok-clause-rises : goal.returns-in-Ok-clause-rises
returns-in-Ok-clause-rises g c = renewed-next c.args.state.now c.root_anew.new.state c.clear_journal.new.state c.in_ok-root_anew.ensures.books c.in-Ok.ensures.books

pub returns-in-Ok-clause-changes : goal.returns-in-Ok-clause-changes
returns-in-Ok-clause-changes g c = keeps-then {D = g.row.D.Denot} c.in_ok-root_anew.ensures.changes c.in-Ok.ensures.changes

pub returns-in-Err-clause-changes : goal.returns-in-Err-clause-changes
returns-in-Err-clause-changes g c = keeps-then {D = g.row.D.Denot} c.in_ok-root_anew.ensures.changes c.in-Err.ensures.changes
