use Rattle.std.proofs.Common.{ap, ◌∙◌}
use Rattle.file_books.specs.Effects.{closed_books}
use Rattle.checkpoints.proofs.Journal.{emptying-stands, emptied-on-ok, emptying-on-err}
use Rattle.checkpoints.proofs.emptying.clear_journal.Goals as goal

pub returns-clause-moments : goal.returns-clause-moments
returns-clause-moments g c = λ m o.
    emptying-stands {K = g.row.K} {D = g.row.D.Denot} g.D.Disk c.args.state.now m c.args.disk.now o c.closed.new.self (c.closed.ensures ∙ ap closed_books c.turn.ensures) c.clear_idle.new.disk c.clear_idle.ensures.moments

pub returns-clause-stands : goal.returns-clause-stands
returns-clause-stands g c = λ m o.
    emptied-on-ok {K = g.row.K} {D = g.row.D.Denot} g.D.Disk c.args.state.now m c.args.disk.now o c.closed.new.self (c.closed.ensures ∙ ap closed_books c.turn.ensures) c.clear_idle.new.disk
    c.clear_idle.result c.clear_idle.new.state c.clear_idle.ensures.books c.clear_idle.ensures.cleared

pub returns-clause-behind : goal.returns-clause-behind
returns-clause-behind g c = λ m o.
    emptying-on-err {K = g.row.K} {D = g.row.D.Denot} g.D.Disk c.args.state.now m c.args.disk.now o c.closed.new.self (c.closed.ensures ∙ ap closed_books c.turn.ensures) c.clear_idle.new.disk
    c.clear_idle.result c.clear_idle.new.state c.clear_idle.ensures.same c.clear_idle.ensures.failed
