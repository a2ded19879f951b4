use Rattle.std.proofs.Common.{rules, ◌≡◌, ◌≤◌, ◌<◌, ◌∙◌, All, refl, sym, ap, subst}
use Rattle.std.proofs.lemmas.Result.{err_from_is_err_and}
use Rattle.grid_types.specs.declared.sizes.TheConstants.{MOST_ATTRIBUTES}
use Rattle.file_books.specs.Books.{Books, numbers_now}
use Rattle.query_paths.specs.Paths.{pages_of_query}
use Rattle.query_paths.specs.Pinned.{MakesSteps}
use Rattle.query_paths.specs.Rooms.{room_for}
use Rattle.grid_types.specs.Queries.{is_lawful}
use Rattle.grid_model.specs.Listings.{rows}
use Rattle.grid_store.proofs.Answering.{fault_or_lack, rows_of_pairs}
use Rattle.grid_store.proofs.Pinning.{few_attributes, front_at, numbers_within, pinned_at}
use Rattle.grid_store.proofs.listing.list_matching.Goals as goal

pub list_rows-requires : goal.list_rows-requires
list_rows-requires g c =
    let few : g.row.K ≤ MOST_ATTRIBUTES = few_attributes g.row.K c.args.file.now.books c.state.ensures.sound.books_are in
    let within : All (λ n. n < room_for c.args.room.now) (numbers_now c.args.file.now.books) = numbers_within c.args.file.now.books (room_for c.args.room.now) c.requires.marks in
    search (rules, few, within)

pub returns-in_err-value-clause-told : goal.returns-in_err-value-clause-told
returns-in_err-value-clause-told g c = λ told p is.
    let pin = pinned_at g.D.Disk g.met.D.Disk.seen_now c.args.file.now p told is in
    let r = err_from_is_err_and c.from_residual.result c.from_residual.ensures.1 in
    rw (r.1, r.2) (refl, fault_or_lack (is_lawful c.args.query.now.sides) c.in_err-value.field-0.0 (c.in_err-value.ensures.honest p.at.layout p.at.table pin))

pub returns-in_err-value-clause-reads : goal.returns-in_err-value-clause-reads
returns-in_err-value-clause-reads g c = λ told p is.
    let pin = pinned_at g.D.Disk g.met.D.Disk.seen_now c.args.file.now p told is in
    let r = err_from_is_err_and c.from_residual.result c.from_residual.ensures.1 in
    subst (MakesSteps (pages_of_query p.at.layout c.args.query.now) c.args.steps.now c.list_rows.new.steps) (sym r.1) (c.in_err-value.ensures.reads p.at.layout p.at.table pin)

pub returns-clause-told : goal.returns-clause-told
returns-clause-told g c = λ told p is.
    let pin = pinned_at g.D.Disk g.met.D.Disk.seen_now c.args.file.now p told is in
    let at : c.front-at.result ≡ p.at.place = c.front-at.ensures ∙ ap (λ (b : Books). b.front) c.state.ensures.books ∙ sym (front_at g.D.Disk c.args.file.now.books p c.args.file.now.disk is) in
    let value = rows_of_pairs c.in_ok-value.value (rows p.at.table c.args.query.now) (c.in_ok-value.ensures.answer p.at.layout p.at.table pin) in
    (c.requires.lawful, record { stays = refl; answer = λ i. record { at = at i; value = value i } })

pub returns-clause-reads : goal.returns-clause-reads
returns-clause-reads g c = λ told p is. c.in_ok-value.ensures.reads p.at.layout p.at.table (pinned_at g.D.Disk g.met.D.Disk.seen_now c.args.file.now p told is)
