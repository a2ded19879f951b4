use Rattle.std.proofs.Common.{rules, ◌≡◌, ◌≤◌, ◌∙◌, refl, sym, ap}
use Rattle.std.proofs.lemmas.Result.{err_from_is_err_and}
use Rattle.grid_types.specs.declared.sizes.TheConstants.{MOST_ATTRIBUTES}
use Rattle.file_books.specs.Books.{Books}
use Rattle.grid_store.proofs.Pinning.{few_attributes, front_at, pinned_at}
use Rattle.grid_store.proofs.reading.read_key.Goals as goal

pub exact-requires : goal.exact-requires
exact-requires g c =
    let few : g.row.K ≤ MOST_ATTRIBUTES = few_attributes g.row.K c.args.file.now.books c.state.ensures.sound.books_are in
    search (rules, few)

pub returns-in_err-value-clause-told : goal.returns-in_err-value-clause-told
returns-in_err-value-clause-told g c = λ told p is.
    let pin = pinned_at g.D.Disk g.met.D.Disk.seen_now c.args.file.now p told is in
    let r = err_from_is_err_and c.from_residual.result c.from_residual.ensures.1 in
    rw (r.1, r.2) (refl, c.in_err-value.ensures.honest p.at.layout p.at.table pin)

pub returns-clause-told : goal.returns-clause-told
returns-clause-told g c = λ told p is.
    let pin = pinned_at g.D.Disk g.met.D.Disk.seen_now c.args.file.now p told is in
    let at : c.front-at.result ≡ p.at.place = c.front-at.ensures ∙ ap (λ (b : Books). b.front) c.state.ensures.books ∙ sym (front_at g.D.Disk c.args.file.now.books p c.args.file.now.disk is) in
    let value = c.in_ok-value.ensures.answer p.at.layout p.at.table pin in
    record { stays = refl; answer = λ i. record { at = at i; value = value i } }
