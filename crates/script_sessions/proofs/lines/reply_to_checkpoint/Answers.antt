use Rattle.script_sessions.proofs.Calling.{refuses-checkpoint}
use Rattle.script_sessions.proofs.lines.reply_to_checkpoint.Goals as goal

pub returns-in-Err : goal.returns-in-Err
returns-in-Err g c =
    let e = c.in-Err.ensures in
    refuses-checkpoint {K = g.row.K} {D = g.row.D.Denot} g.D.Disk c.args.store.now c.checkpoint.new.self c.in-Err.refusal e.answers (λ n is. (e.stopped n is).0) e.refused e.same.goes_on.file.shape e.changes
