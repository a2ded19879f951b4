use Rattle.std.proofs.Common.{◌≡◌, ◌≤◌, ◌<◌, ◌+◌, ◌*◌, ◌∙◌, [], ◌∷◌, ◌++◌, ℕ, List, length, ap, sym, arith, append_assoc}
use Rattle.std.proofs.lemmas.List.{map-append, append-nil}
use Rattle.grid_types.specs.declared.update.Record.{Record}
use Rattle.grid_types.specs.Queries.{matches}
use Rattle.grid_model.specs.Tables.{Table, pair_of, pairs_of}
use Rattle.grid_model.specs.Listings.{rows}
use Rattle.bucket_page.specs.OnPage.{numbers_at, data_at, record_at, records_at}
use Rattle.bucket_page.proofs.OnPage.{rows_are}
use Rattle.bucket_page.proofs.Finding.{record_there}
use Rattle.bucket_page.proofs.Matches.{none_at_first, one_more, none_more}
use Rattle.bucket_page.proofs.matching.push_matching.Goals as goal
use Rattle.bucket_page.proofs.matching.push_matching.Goals.{then-admits+in_ok-push, else-admits}

pub loop-i-init : goal.loop-i-init
loop-i-init g c = λ capacity b s is.
    let old = pairs_of c.args.found.now in
    sym (append-nil old) ∙ ap (λ (t : Table). old ++ t) (sym (none_at_first c.args.query.now))

pub loop-i-preserved : goal.loop-i-preserved
loop-i-preserved g c = λ capacity b s is.
    let K = g.row.K in
    let page = c.args.page.now in
    let i = c.loop-i.i in
    let q = c.args.query.now in
    let first = pairs_of c.args.found.now in
    let before : Table = rows (pairs_of (records_at K page 96 i)) q in
    let e : List ℕ × List ℕ = (numbers_at K (96 + 80 * i) page, data_at page (96 + 80 * i)) in
    let old = c.loop-i.invariant capacity b s is in
    let lt : i < c.args.count = omega (arith, c.loop-i-test.true) in
    let d : Record K = record_at K page 0 in
    let admitted : c.admits.result ≡ matches q.sides (numbers_at K (96 + 80 * i) page) = c.admits.ensures ∙ ap (matches q.sides) c.key_at.ensures in
    elim c.if-admits.branch [
      | then-admits+in_ok-push w ↦
          let many : length b.rows ≤ 48 = omega (arith, is, c.requires.many) in
          let here : w.record_on.result ≡ record_at K page (96 + 80 * i) =
          w.record_on.ensures d capacity b s many (omega (arith, lt, is)) ∙ record_there K capacity c.args.count page b c.requires.few c.requires.many c.fits-page s is i d lt in
          ap pairs_of w.found-is
          ∙ ap pairs_of w.in_ok-push.ensures.added
          ∙ map-append pair_of c.loop-i.found (w.record_on.result ∷ [])
          ∙ ap (λ (r : Record K). pairs_of c.loop-i.found ++ pair_of r ∷ []) here
          ∙ ap (λ (t : Table). t ++ e ∷ []) old
          ∙ append_assoc first before (e ∷ [])
          ∙ ap (λ (t : Table). first ++ t) (sym (one_more page q i (sym admitted ∙ w.if-admits.true)))
      | else-admits w ↦
          ap pairs_of w.found-is ∙ old ∙ ap (λ (t : Table). first ++ t) (sym (none_more page q i (sym admitted ∙ w.if-admits.false)))
    ]

pub returns : goal.returns
returns g c = λ capacity b s is.
    let end : c.loop-i.i ≡ c.args.count = omega (arith, c.loop-i-test.false, c.loop-i.auto.i-end) in
    let all = ap (records_at g.row.K c.args.page.now 96) end ∙ sym (rows_are g.row.K capacity c.args.count c.args.page.now b c.requires.few c.requires.many c.fits-page s is) in
    c.loop-i.invariant capacity b s is ∙ ap (λ (rs : List (Record g.row.K)). pairs_of c.args.found.now ++ rows (pairs_of rs) c.args.query.now) all
