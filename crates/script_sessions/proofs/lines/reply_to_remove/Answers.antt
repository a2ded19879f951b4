use Rattle.script_sessions.proofs.Calling.{refuses-remove}
use Rattle.script_sessions.proofs.lines.reply_to_remove.Goals as goal

pub returns-in-Err : goal.returns-in-Err
returns-in-Err g c =
    let e = c.in-Err.ensures in
    refuses-remove {K = g.row.K} {D = g.row.D.Denot} g.D.Disk c.args.store.now c.remove.new.self c.args.key.now c.in-Err.refusal e.answers e.lone (λ n is. (e.stopped n is).0) e.refused e.same.file.shape e.changes
