use Rattle.linear_scales.specs.Roots.{whole_of}
use Rattle.file_roots.proofs.Outcomes.{on_err}
use Rattle.checkpoints.proofs.Disks.{keeps-then}
use Rattle.checkpoints.proofs.Standing.{standing-then}
use Rattle.checkpoints.proofs.Steps.{closing-stands, closing-behind, trying-stands, trying-behind, clearing-stands, clearing-behind, checkpointed-open, checkpointed-rooted, checkpointed-open-alone}
use Rattle.checkpoints.proofs.stepping.checkpoint.Goals as goal

pub returns-in_err-close-clause-moments : goal.returns-in_err-close-clause-moments
returns-in_err-close-clause-moments g c = λ m o. closing-stands {K = g.row.K} {D = g.row.D.Denot} g.D.Disk c.args.state.now c.args.disk.now c.close.new.disk c.in_err-close.ensures.moments m o

pub returns-in_err-close-clause-behind : goal.returns-in_err-close-clause-behind
returns-in_err-close-clause-behind g c = λ m.
    on_err c.from_residual.result (closing-behind {K = g.row.K} {D = g.row.D.Denot} g.D.Disk c.args.state.now c.args.disk.now c.close.new.disk c.close.new.state c.in_err-close.ensures.same c.in_err-close.ensures.again m)

pub returns-in-Err-clause-moments : goal.returns-in-Err-clause-moments
returns-in-Err-clause-moments g c = λ m o.
    let first = c.in_ok-close.ensures in
    let second = c.in-Err.ensures in
    standing-then {K = g.row.K} {D = g.row.D.Denot} g.D.Disk m first.changes.honest
    (closing-stands {K = g.row.K} {D = g.row.D.Denot} g.D.Disk c.args.state.now c.args.disk.now c.close.new.disk first.moments m o)
    (trying-stands {K = g.row.K} {D = g.row.D.Denot} g.D.Disk c.args.state.now c.args.disk.now c.close.new.disk first.closed c.write_root.new.disk (whole_of {K = g.row.K} c.write_root.new.next) c.close.new.state first.books second.next second.moments m o)

pub returns-in-Err-clause-behind : goal.returns-in-Err-clause-behind
returns-in-Err-clause-behind g c = λ m.
    let first = c.in_ok-close.ensures in
    let second = c.in-Err.ensures in
    trying-behind {K = g.row.K} {D = g.row.D.Denot} g.D.Disk c.args.state.now c.args.disk.now c.close.new.disk first.closed c.write_root.new.disk (whole_of {K = g.row.K} c.write_root.new.next) c.close.new.state first.books second.next
    c.write_root.new.state second.behind second.again m

pub returns-in-Err-clause-changes : goal.returns-in-Err-clause-changes
returns-in-Err-clause-changes g c = keeps-then {D = g.row.D.Denot} c.in_ok-close.ensures.changes c.in-Err.ensures.changes

pub returns-in-Ok-clear_idle-clause-moments : goal.returns-in-Ok-clear_idle-clause-moments
returns-in-Ok-clear_idle-clause-moments g c = λ m o.
    let first = c.in_ok-close.ensures in
    let second = c.in-Ok.ensures in
    let third = c.in-Ok-clear_idle.ensures in
    let w = whole_of {K = g.row.K} c.write_root.new.next in
    standing-then {K = g.row.K} {D = g.row.D.Denot} g.D.Disk m first.changes.honest
    (closing-stands {K = g.row.K} {D = g.row.D.Denot} g.D.Disk c.args.state.now c.args.disk.now c.close.new.disk first.moments m o)
    (standing-then {K = g.row.K} {D = g.row.D.Denot} g.D.Disk m second.changes.honest
    (trying-stands {K = g.row.K} {D = g.row.D.Denot} g.D.Disk c.args.state.now c.args.disk.now c.close.new.disk first.closed c.write_root.new.disk w c.close.new.state first.books second.next second.moments m o)
    (clearing-stands {K = g.row.K} {D = g.row.D.Denot} g.D.Disk c.args.state.now c.args.disk.now c.close.new.disk first.closed c.write_root.new.disk w c.close.new.state first.books second.next
    second.rooted c.clear_idle.new.disk c.write_root.new.state second.books third.moments m o))

pub returns-in-Ok-clear_idle-clause-stands : goal.returns-in-Ok-clear_idle-clause-stands
returns-in-Ok-clear_idle-clause-stands g c = λ m o.
    let first = c.in_ok-close.ensures in
    let second = c.in-Ok.ensures in
    let third = c.in-Ok-clear_idle.ensures in
    checkpointed-open {K = g.row.K} {D = g.row.D.Denot} g.D.Disk c.args.state.now c.args.disk.now c.close.new.disk first.closed c.write_root.new.disk (whole_of {K = g.row.K} c.write_root.new.next) c.close.new.state first.books second.next
    second.rooted c.clear_idle.new.disk c.write_root.new.state second.books third.cleared c.clear_idle.new.state third.books m o

pub returns-in-Ok-clear_idle-clause-rooted : goal.returns-in-Ok-clear_idle-clause-rooted
returns-in-Ok-clear_idle-clause-rooted g c = λ m o.
    let first = c.in_ok-close.ensures in
    let second = c.in-Ok.ensures in
    let third = c.in-Ok-clear_idle.ensures in
    checkpointed-rooted {K = g.row.K} {D = g.row.D.Denot} g.D.Disk c.args.state.now c.args.disk.now c.close.new.disk first.closed c.write_root.new.disk (whole_of {K = g.row.K} c.write_root.new.next) c.close.new.state first.books second.next
    second.rooted c.clear_idle.new.disk c.write_root.new.state second.books third.cleared c.clear_idle.new.state third.books m o

pub returns-in-Ok-clear_idle-clause-alone : goal.returns-in-Ok-clear_idle-clause-alone
returns-in-Ok-clear_idle-clause-alone g c = λ m s o.
    let first = c.in_ok-close.ensures in
    let second = c.in-Ok.ensures in
    let third = c.in-Ok-clear_idle.ensures in
    checkpointed-open-alone {K = g.row.K} {D = g.row.D.Denot} g.D.Disk c.args.state.now c.args.disk.now c.close.new.disk first.closed c.write_root.new.disk (whole_of {K = g.row.K} c.write_root.new.next) c.close.new.state first.books second.next
    second.rooted c.clear_idle.new.disk c.write_root.new.state second.books third.cleared c.clear_idle.new.state third.books m s o

pub returns-in-Ok-clear_idle-clause-changes : goal.returns-in-Ok-clear_idle-clause-changes
returns-in-Ok-clear_idle-clause-changes g c =
    keeps-then {D = g.row.D.Denot} c.in_ok-close.ensures.changes (keeps-then {D = g.row.D.Denot} c.in-Ok.ensures.changes c.in-Ok-clear_idle.ensures.changes)

pub returns-in-Err-clear_idle-clause-moments : goal.returns-in-Err-clear_idle-clause-moments
returns-in-Err-clear_idle-clause-moments g c = λ m o.
    let first = c.in_ok-close.ensures in
    let second = c.in-Ok.ensures in
    let third = c.in-Err-clear_idle.ensures in
    let w = whole_of {K = g.row.K} c.write_root.new.next in
    standing-then {K = g.row.K} {D = g.row.D.Denot} g.D.Disk m first.changes.honest
    (closing-stands {K = g.row.K} {D = g.row.D.Denot} g.D.Disk c.args.state.now c.args.disk.now c.close.new.disk first.moments m o)
    (standing-then {K = g.row.K} {D = g.row.D.Denot} g.D.Disk m second.changes.honest
    (trying-stands {K = g.row.K} {D = g.row.D.Denot} g.D.Disk c.args.state.now c.args.disk.now c.close.new.disk first.closed c.write_root.new.disk w c.close.new.state first.books second.next second.moments m o)
    (clearing-stands {K = g.row.K} {D = g.row.D.Denot} g.D.Disk c.args.state.now c.args.disk.now c.close.new.disk first.closed c.write_root.new.disk w c.close.new.state first.books second.next
    second.rooted c.clear_idle.new.disk c.write_root.new.state second.books third.moments m o))

pub returns-in-Err-clear_idle-clause-behind : goal.returns-in-Err-clear_idle-clause-behind
returns-in-Err-clear_idle-clause-behind g c = λ m.
    let first = c.in_ok-close.ensures in
    let second = c.in-Ok.ensures in
    let third = c.in-Err-clear_idle.ensures in
    clearing-behind {K = g.row.K} {D = g.row.D.Denot} g.D.Disk c.args.state.now c.args.disk.now c.close.new.disk first.closed c.write_root.new.disk (whole_of {K = g.row.K} c.write_root.new.next) c.close.new.state first.books second.next
    second.rooted c.clear_idle.new.disk c.write_root.new.state second.books c.clear_idle.new.state third.same third.failed m

pub returns-in-Err-clear_idle-clause-changes : goal.returns-in-Err-clear_idle-clause-changes
returns-in-Err-clear_idle-clause-changes g c =
    keeps-then {D = g.row.D.Denot} c.in_ok-close.ensures.changes (keeps-then {D = g.row.D.Denot} c.in-Ok.ensures.changes c.in-Err-clear_idle.ensures.changes)
