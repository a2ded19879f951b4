use Rattle.std.specs.Prelude.{[]}
use Rattle.file_opening.proofs.Redone.{shown-stands, settled-open}
use Rattle.file_opening.proofs.renewing.settle.Goals as goal

pub returns-in_err-sync-clause-moments : goal.returns-in_err-sync-clause-moments
returns-in_err-sync-clause-moments g c = λ m w. shown-stands {K = g.row.K} {D = g.row.D.Denot} g.D.Disk c.args.state.now c.args.disk.now c.sync.new.disk m [] w (c.in_err-sync.ensures.moments g.row.K w.kept w.meets)

pub returns-clause-moments : goal.returns-clause-moments
returns-clause-moments g c = λ m w. shown-stands {K = g.row.K} {D = g.row.D.Denot} g.D.Disk c.args.state.now c.args.disk.now c.sync.new.disk m [] w (c.in_ok-sync.ensures.moments g.row.K w.kept w.meets)

pub returns-clause-stands : goal.returns-clause-stands
returns-clause-stands g c = λ m w.
    settled-open {K = g.row.K} {D = g.row.D.Denot} g.D.Disk c.args.state.now c.args.disk.now c.sync.new.disk m c.begin_session.new.self c.begin_session.ensures
    c.in_ok-sync.ensures.durable w (c.in_ok-sync.ensures.kept g.row.K w.kept w.meets)
