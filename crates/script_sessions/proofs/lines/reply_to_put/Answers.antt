use Rattle.script_sessions.proofs.Calling.{refuses-put}
use Rattle.script_sessions.proofs.lines.reply_to_put.Goals as goal

pub returns-in-Err : goal.returns-in-Err
returns-in-Err g c =
    let e = c.in-Err.ensures in
    refuses-put {K = g.row.K} {D = g.row.D.Denot} g.D.Disk c.args.store.now c.put.new.self c.args.row.now c.in-Err.refusal e.answers e.lone (λ n is. (e.stopped n is).0) e.refused e.same.file.shape e.changes
