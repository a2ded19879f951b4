use Rattle.std.proofs.Common.{◌<◌, ◌∙◌, ap, subst, sym, arith}
use Rattle.grid_model.specs.Lone.{published}
use Rattle.file_images.specs.Leads.{behind}
use Rattle.file_books.specs.Books.{Books}
use Rattle.file_books.specs.Effects.{committed_books, used_of}
use Rattle.journal_slots.proofs.Refused.{where_refused}
use Rattle.file_state.specs.Memories.{publishing_of}
use Rattle.file_standing.specs.Open.{IsOpenInSession, IsOpenAlone}
use Rattle.file_standing.specs.Steps.{batch_of_one, with_fresh}
use Rattle.commits.proofs.Outcomes.{next-slot, stays-or-moves, doubtful, open-after, alone-after}
use Rattle.commits.proofs.committing.commit_update.Goals as goal

pub returns-in_err-place_one-clause-moments : goal.returns-in_err-place_one-clause-moments
returns-in_err-place_one-clause-moments g c = λ k m e fresh is was.
    let b = c.args.state.now in
    let x = publishing_of {K = g.row.K} c.args.change.now c.args.pages.now in
    stays-or-moves b k m e c.args.update.now x fresh is g.D.Disk c.args.disk.now c.place_one.new.disk
    (c.place_one.ensures.moments (with_fresh k fresh) (next-slot b k m e c.args.update.now x fresh is c.args.slot c.requires.next) was)

pub returns-in_err-place_one-clause-doubted : goal.returns-in_err-place_one-clause-doubted
returns-in_err-place_one-clause-doubted g c = λ k m e fresh is was.
    let b = c.args.state.now in
    let x = publishing_of {K = g.row.K} c.args.change.now c.args.pages.now in
    where_refused c.from_residual.result (doubtful b k m e c.args.update.now x fresh is g.D.Disk c.place_one.new.disk
    (c.in_err-place_one.ensures.failed (with_fresh k fresh) (next-slot b k m e c.args.update.now x fresh is c.args.slot c.requires.next) was))

pub returns-clause-moments : goal.returns-clause-moments
returns-clause-moments g c = λ k m e fresh is was.
    let b = c.args.state.now in
    let x = publishing_of {K = g.row.K} c.args.change.now c.args.pages.now in
    stays-or-moves b k m e c.args.update.now x fresh is g.D.Disk c.args.disk.now c.place_one.new.disk
    (c.place_one.ensures.moments (with_fresh k fresh) (next-slot b k m e c.args.update.now x fresh is c.args.slot c.requires.next) was)

pub returns-clause-committed : goal.returns-clause-committed
returns-clause-committed g c = λ k m e fresh is was.
    let b = c.args.state.now in
    let x = publishing_of {K = g.row.K} c.args.change.now c.args.pages.now in
    let room : used_of b b.half < b.shape.slots = omega (arith, c.requires.next, c.requires.inside) in
    subst (λ (y : Books). IsOpenInSession g.D.Disk y (behind m (batch_of_one b c.args.update.now c.args.change.now.note)) c.place_one.new.disk) (sym (c.commit_slot.ensures ∙ ap committed_books c.publish.ensures))
    (open-after b k m e c.args.update.now x fresh is g.D.Disk room c.place_one.new.disk (c.in_ok-place_one.ensures.placed (with_fresh k fresh) (next-slot b k m e c.args.update.now x fresh is c.args.slot c.requires.next) was) c.in_ok-place_one.ensures.durable)

pub returns-clause-alone : goal.returns-clause-alone
returns-clause-alone g c = λ k m e fresh s is alone was.
    let b = c.args.state.now in
    let u = c.args.update.now in
    let n = c.args.change.now.note in
    let x = publishing_of {K = g.row.K} c.args.change.now c.args.pages.now in
    let room : used_of b b.half < b.shape.slots = omega (arith, c.requires.next, c.requires.inside) in
    subst (λ (y : Books). IsOpenAlone g.D.Disk y (behind m (batch_of_one b u n)) (published e u n s) c.place_one.new.disk) (sym (c.commit_slot.ensures ∙ ap committed_books c.publish.ensures))
    (alone-after b k m e u x fresh is g.D.Disk room c.place_one.new.disk (c.in_ok-place_one.ensures.placed (with_fresh k fresh) (next-slot b k m e u x fresh is c.args.slot c.requires.next) was) c.in_ok-place_one.ensures.durable s alone)
