use Rattle.std.proofs.Common.{◌≡◌, ◌<◌, ◌+◌, ◌*◌, ◌∙◌, ◌∷◌, ◌++◌, [], ℕ, List, length, drop, ap, sym, subst, arith}
use Rattle.grid_types.specs.declared.update.Record.{Record}
use Rattle.page_fields.specs.Fields.{number}
use Rattle.bucket_page.specs.declared.bucket.Bucket.{Bucket}
use Rattle.bucket_page.specs.declared.head.Head.{Head}
use Rattle.grid_model.specs.Spellings.{BucketOf}
use Rattle.grid_model.specs.Buckets.{SpellsBucket}
use Rattle.bucket_page.specs.Buckets.{bucket_of}
use Rattle.bucket_page.specs.OnPage.{record_at, records_at, bucket_told}
use Rattle.bucket_page.proofs.OnPage.{told, row_of, rows_more, length-rows}
use Rattle.bucket_page.proofs.reading.decode.Goals as goal

-- the bucket in memory that the model sees as this one
abbrev bucket_in_memory : {K : ℕ} → BucketOf K → Bucket K
bucket_in_memory b = record { number = b.number; turn = b.box.turn; region = b.box.region; rows = record { items = b.rows } }

pub loop-i-preserved : goal.loop-i-preserved
loop-i-preserved g c =
    let K = g.row.K in
    let page = c.args.page.now in
    let n = number 2 (drop 8 page) in
    let i = c.loop-i.i in
    let inv = c.loop-i.invariant in
    let d : Record K = record_at K page 0 in
    let count : c.in-Some.head.count ≡ n = ap (λ (h : Head K). h.count) c.in-Some.ensures.head in
    let lt : i < n = omega (arith, count, c.loop-i-test.true) in
    let all : length (records_at K page 96 n) ≡ n = length-rows K page 96 n in
    let here : c.record_on.result ≡ record_at K page (96 + 80 * i) =
    c.record_on.ensures d c.args.capacity (bucket_told K page) c.in-Some.ensures.spelled (omega (arith, all, count, c.in-Some.ensures.count, c.requires.lawful)) (omega (arith, lt, all)) ∙ row_of K page 96 n i d lt in
    record {
      number = inv.number;
      turn = inv.turn;
      region = inv.region;
      len = omega (arith, c.push.ensures.len, inv.len);
      rows = c.push.ensures.items
          ∙ ap (λ (rs : List (Record K)). rs ++ c.record_on.result ∷ []) inv.rows
          ∙ ap (λ (r : Record K). records_at K page 96 i ++ r ∷ []) here
          ∙ sym (rows_more K page 96 i);
    }

pub returns-clause-found : goal.returns-clause-found
returns-clause-found g c =
    let K = g.row.K in
    let page = c.args.page.now in
    let n = number 2 (drop 8 page) in
    let inv = c.loop-i.invariant in
    let count : c.in-Some.head.count ≡ n = ap (λ (h : Head K). h.count) c.in-Some.ensures.head in
    let end : c.loop-i.i ≡ n = omega (arith, count, c.loop-i-test.false, c.loop-i.auto.i-end) in
    let all : c.loop-i.bucket.rows.items ≡ records_at K page 96 n = inv.rows ∙ ap (records_at K page 96) end in
    let same : bucket_of c.loop-i.bucket ≡ bucket_told K page = λ j. record { number = inv.number j; box = record { region = inv.region j; turn = inv.turn j }; rows = all j } in
    subst (SpellsBucket c.args.capacity page) (sym same) c.in-Some.ensures.spelled

pub returns-clause-only : goal.returns-clause-only
returns-clause-only g c = λ b s.
    let K = g.row.K in
    let same : bucket_of c.loop-i.bucket ≡ bucket_of b =
    told K c.args.capacity c.args.page.now (bucket_of c.loop-i.bucket) c.requires.few c.requires.lawful c.fits-page (returns-clause-found g c)
    ∙ sym (told K c.args.capacity c.args.page.now (bucket_of b) c.requires.few c.requires.lawful c.fits-page s) in
    ap bucket_in_memory same
