use Rattle.std.proofs.Common.{◌≡◌, ap, ◌∙◌, sym, subst}
use Rattle.shadow_directory.specs.Calls.{IsFault}
use Rattle.shadow_directory.proofs.Faults.{err-goes}
use Rattle.file_books.specs.Effects.{published_books}
use Rattle.file_standing.specs.Open.{StaysStanding}
use Rattle.file_state.specs.Memories.{publishing_of}
use Rattle.file_state.specs.declared.change.Change.{Change}
use Rattle.grid_file.specs.Files.{OpenFile, opened_file}
use Rattle.grid_file.proofs.Telling.{redo_readings_tell}
use Rattle.file_updates.specs.Writing.{publishing_by}
use Rattle.file_opening.specs.Redoing.{stands_at}
use Rattle.file_opening.proofs.RedoChanges.{published-changes, undone-changes}
use Rattle.file_opening.proofs.RedoSteps.{plan-pinned, planned-redone, undone-stands, writing-stands}
use Rattle.file_opening.proofs.redoing.redo_planned.Goals as goal

pub returns-in_err-write_update-clause-moments : goal.returns-in_err-write_update-clause-moments
returns-in_err-write_update-clause-moments g c = λ m rest w.
    undone-stands {K = g.row.K} {D = g.row.D.Denot} g.D.Disk c.args.file.now m rest w c.args.plan.now.pages c.write_update.new.file c.in_err-write_update.ensures.undone

pub returns-in_err-write_update-clause-honest : goal.returns-in_err-write_update-clause-honest
returns-in_err-write_update-clause-honest g c = λ m u rest told next.
    let at = stands_at next.way in
    err-goes c.from_residual.result _ IsFault c.from_residual.ensures.1
    (c.in_err-write_update.ensures.honest at.layout at.table u.update next.box (plan-pinned g.D.Disk c.args.file.now m u rest _ _ _ next (redo_readings_tell g.D.Disk g.met.D.Disk.seen_now) told) next.is)

pub returns-in_err-write_update-clause-changes : goal.returns-in_err-write_update-clause-changes
returns-in_err-write_update-clause-changes g c = undone-changes {K = g.row.K} {D = g.row.D.Denot} g.D.Disk c.args.file.now c.args.plan.now.pages c.write_update.new.file c.in_err-write_update.ensures.undone

pub returns-clause-redone : goal.returns-clause-redone
returns-clause-redone g c = λ m u rest told next lawful.
    let at = stands_at next.way in
    let e = c.in_ok-write_update.ensures in
    let mid : OpenFile g.row.D.Denot = c.write_update.new.file in
    let is : c.publish.new.self ≡ opened_file mid.disk (published_books mid.books (publishing_by c.args.plan.now mid.claimed)) =
    c.publish.ensures ∙ ap (λ (x : Change g.row.K). opened_file mid.disk (published_books mid.books (publishing_of x mid.claimed))) c.change_of.ensures in
    planned-redone {K = g.row.K} {D = g.row.D.Denot} g.D.Disk c.args.file.now m u rest c.args.room.now.first.value c.args.room.now.second.value c.args.plan.now next mid c.publish.new.self e.done c.requires.free
    (e.written at.layout at.table u.update next.box (plan-pinned g.D.Disk c.args.file.now m u rest _ _ _ next (redo_readings_tell g.D.Disk g.met.D.Disk.seen_now) told) next.is) e.all e.count lawful
    (e.publishable u.update next.ready c.requires.place) is

pub returns-clause-moments : goal.returns-clause-moments
returns-clause-moments g c = λ m rest w.
    subst (λ (f : OpenFile g.row.D.Denot). StaysStanding {K = g.row.K} g.D.Disk m c.args.file.now.disk f.disk) (sym c.publish.ensures)
    (writing-stands {K = g.row.K} {D = g.row.D.Denot} g.D.Disk c.args.file.now m rest w c.args.plan.now.pages c.write_update.new.file c.in_ok-write_update.ensures.done)

pub returns-clause-changes : goal.returns-clause-changes
returns-clause-changes g c =
    published-changes {K = g.row.K} {D = g.row.D.Denot} g.D.Disk c.args.file.now c.args.plan.now.pages c.write_update.new.file c.publish.new.self c.in_ok-write_update.ensures.done (publishing_of c.change_of.result c.write_update.new.file.claimed) c.publish.ensures
