use Rattle.std.proofs.Common.{◌≡◌, ◌+◌, ◌*◌, ◌∙◌, List, length, ap, sym, arith}
use Rattle.grid_types.specs.declared.update.Record.{Record}
use Rattle.grid_types.specs.Queries.{matches}
use Rattle.grid_model.specs.Tables.{pairs_of}
use Rattle.grid_model.specs.Listings.{rows}
use Rattle.bucket_page.specs.OnPage.{numbers_at, records_at}
use Rattle.bucket_page.proofs.OnPage.{rows_are}
use Rattle.bucket_page.proofs.Matches.{none_at_first, one_longer, none_more}
use Rattle.bucket_page.proofs.matching.count_matching.Goals as goal
use Rattle.bucket_page.proofs.matching.count_matching.Goals.{then-admits, else-admits}

pub loop-i-init : goal.loop-i-init
loop-i-init g c = record { few = omega arith; found = ap length (sym (none_at_first c.args.query.now)) }

pub loop-i-preserved : goal.loop-i-preserved
loop-i-preserved g c =
    let K = g.row.K in
    let page = c.args.page.now in
    let i = c.loop-i.i in
    let q = c.args.query.now in
    let old = c.loop-i.invariant in
    let admitted : c.admits.result ≡ matches q.sides (numbers_at K (96 + 80 * i) page) = c.admits.ensures ∙ ap (matches q.sides) c.key_at.ensures in
    elim c.if-admits.branch [
      | then-admits w ↦
          let more = one_longer page q i (sym admitted ∙ w.if-admits.true) in
          record { few = omega (arith, w.found-is, old.few); found = omega (arith, w.found-is, old.found, more) }
      | else-admits w ↦
          let same = ap length (none_more page q i (sym admitted ∙ w.if-admits.false)) in
          record { few = omega (arith, w.found-is, old.few); found = w.found-is ∙ old.found ∙ sym same }
    ]

pub returns : goal.returns
returns g c = λ capacity b s is.
    let end : c.loop-i.i ≡ c.args.count = omega (arith, c.loop-i-test.false, c.loop-i.auto.i-end) in
    let all = ap (records_at g.row.K c.args.page.now 96) end ∙ sym (rows_are g.row.K capacity c.args.count c.args.page.now b c.requires.few c.requires.many c.fits-page s is) in
    c.loop-i.invariant.found ∙ ap (λ (rs : List (Record g.row.K)). length (rows (pairs_of rs) c.args.query.now)) all
