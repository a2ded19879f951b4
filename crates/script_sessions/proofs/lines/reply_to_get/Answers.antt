use Rattle.grid_types.specs.declared.request.Request.TheVariants as ask
use Rattle.grid_types.specs.declared.request.Reply.TheVariants as told
use Rattle.grid_file.specs.Pages.{front_place}
use Rattle.script_sessions.proofs.Calling.{reads, refuses-get}
use Rattle.script_sessions.proofs.lines.reply_to_get.Goals as goal

pub returns-in-Ok : goal.returns-in-Ok
returns-in-Ok g c =
    let e = c.in-Ok.ensures in
    reads {K = g.row.K} {D = g.row.D.Denot} g.D.Disk c.args.store.now c.get.new.self (ask.Get c.args.key.now) (told.Got c.in-Ok.answer) e.answers e.lone tt tt e.same

pub returns-in-Err : goal.returns-in-Err
returns-in-Err g c =
    let e = c.in-Err.ensures in
    let old = c.args.store.now in
    let new = c.get.new.self in
    refuses-get {K = g.row.K} {D = g.row.D.Denot} g.D.Disk old new c.args.key.now (front_place g.D.Disk old.file) new.page c.in-Err.refusal e.answers e.cause.refused e.same
