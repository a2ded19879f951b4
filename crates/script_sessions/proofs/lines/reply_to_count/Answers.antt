use Rattle.grid_types.specs.declared.request.Request.TheVariants as ask
use Rattle.grid_types.specs.declared.request.Reply.TheVariants as told
use Rattle.query_paths.specs.Rooms.{bucket_bytes, part_bytes}
use Rattle.grid_file.specs.Pages.{front_place}
use Rattle.script_sessions.proofs.Calling.{reads, refuses-count}
use Rattle.script_sessions.proofs.lines.reply_to_count.Goals as goal

pub returns-in-Ok : goal.returns-in-Ok
returns-in-Ok g c =
    let e = c.in-Ok.ensures in
    reads {K = g.row.K} {D = g.row.D.Denot} g.D.Disk c.args.store.now c.count.new.self (ask.Count c.args.query.now) (told.Counted c.in-Ok.answer) e.answers e.lone tt tt e.same

pub returns-in-Err : goal.returns-in-Err
returns-in-Err g c =
    let e = c.in-Err.ensures in
    let old = c.args.store.now in
    let new = c.count.new.self in
    refuses-count {K = g.row.K} {D = g.row.D.Denot} g.D.Disk old new c.args.query.now (front_place g.D.Disk old.file) (part_bytes new.query) (bucket_bytes new.query) c.in-Err.refusal e.alone e.same e.answers
    (λ no. (e.unlawful no).0) (λ well. (e.cause well).refused)
