use Rattle.std.proofs.Common.{ap, ◌∙◌, ℕ, arith}
use Rattle.std.specs.List.{count_by}
use Rattle.page_states.specs.States.{is_free}
use Rattle.file_books.specs.Books.{Books}
use Rattle.durable_updates.proofs.Rooms.{pages-made, pages-lack}
use Rattle.durable_updates.proofs.making_room.make_pages.Goals as goal

pub returns-then-free-need-clause-alone : goal.returns-then-free-need-clause-alone
returns-then-free-need-clause-alone g c = λ m s was.
    let mid = c.step_if.new.file in
    let e = c.in_ok-step_if.ensures in
    pages-lack {K = g.row.K} {D = g.row.D.Denot} g.D.Disk c.args.file.now.books m s c.args.file.now.disk was mid.books mid.disk c.args.need c.lacks_pages-due.result c.state.result.now c.state.ensures.books c.lacks_pages-due.ensures e.same.reading.shape (e.alone m s was)
    ℕ c.free-free.result (c.free-free.ensures ∙ ap (λ (b : Books). count_by is_free b.pages) c.state-2.ensures.books) c.if-free-need.true

pub returns-clause-alone : goal.returns-clause-alone
returns-clause-alone g c = λ m s was.
    let mid = c.step_if.new.file in
    let e = c.in_ok-step_if.ensures in
    pages-made {K = g.row.K} {D = g.row.D.Denot} g.D.Disk c.args.file.now.books m s c.args.file.now.disk was mid.books mid.disk c.args.need c.lacks_pages-due.result c.state.result.now c.state.ensures.books c.lacks_pages-due.ensures e.same.reading.shape (e.alone m s was)
    {T = ℕ} 0 (omega (arith, c.if-free-need.false, c.free-free.ensures, ap (λ (b : Books). count_by is_free b.pages) c.state-2.ensures.books))
