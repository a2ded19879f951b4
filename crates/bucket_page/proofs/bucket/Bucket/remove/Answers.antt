use Rattle.std.proofs.Common.{◌∙◌, Some, sym, ap, subst}
use Rattle.grid_types.specs.declared.update.Record.{Record}
use Rattle.grid_model.specs.Buckets.{IsBucket}
use Rattle.grid_model.specs.Tables.{IsTable, pairs_of}
use Rattle.grid_model.specs.Spellings.{BucketOf}
use Rattle.bucket_page.specs.Buckets.{bucket_of}
use Rattle.bucket_page.specs.Putting.{with_rows}
use Rattle.bucket_page.specs.Search.{IsFoundAt, FitsBefore}
use Rattle.bucket_page.proofs.Searches.{found_at, none_before}
use Rattle.bucket_page.proofs.Tables.{ascends}
use Rattle.bucket_page.proofs.Without.{rows-without, rows-lacking, without-ascends, without-lawful}
use Rattle.bucket_page.proofs.bucket.Bucket.remove.Goals as goal

pub returns-in-Ok-clause-old : goal.returns-in-Ok-clause-old
returns-in-Ok-clause-old g c =
    let k = c.args.key.now.numbers in
    let there = found_at k c.args.self.now.rows.items c.in-Ok.at (subst (λ xs. IsFoundAt k xs c.in-Ok.at) c.as_slice.ensures.value c.in-Ok.ensures.found) in
    ap (λ (r : Record g.row.K). Some r.value) c.remove-row.ensures.value ∙ sym (there.value c.remove-row.result)

pub returns-in-Ok-clause-without : goal.returns-in-Ok-clause-without
returns-in-Ok-clause-without g c =
    let k = c.args.key.now.numbers in
    let rows = c.args.self.now.rows.items in
    let there = found_at k rows c.in-Ok.at (subst (λ xs. IsFoundAt k xs c.in-Ok.at) c.as_slice.ensures.value c.in-Ok.ensures.found) in
    ap (with_rows (bucket_of c.args.self.now)) (c.remove-row.ensures.items ∙ rows-without k rows c.in-Ok.at c.requires.ascending there)

pub returns-in-Ok-clause-ascending : goal.returns-in-Ok-clause-ascending
returns-in-Ok-clause-ascending g c =
    subst (λ (b : BucketOf g.row.K). IsTable (pairs_of b.rows)) (sym (returns-in-Ok-clause-without g c)) (without-ascends (bucket_of c.args.self.now) c.args.key.now.numbers c.requires.ascending)

pub returns-in-Ok-clause-lawful : goal.returns-in-Ok-clause-lawful
returns-in-Ok-clause-lawful g c = λ capacity h.
    subst (IsBucket capacity) (sym (returns-in-Ok-clause-without g c)) (without-lawful capacity (bucket_of c.args.self.now) c.args.key.now.numbers h)

pub returns-in-Err-clause-old : goal.returns-in-Err-clause-old
returns-in-Err-clause-old g c =
    let k = c.args.key.now.numbers in
    let rows = c.args.self.now.rows.items in
    sym (none_before k rows c.in-Err._before (ascends rows c.requires.ascending) (subst (λ xs. FitsBefore k xs c.in-Err._before) c.as_slice.ensures.value c.in-Err.ensures.found))

pub returns-in-Err-clause-without : goal.returns-in-Err-clause-without
returns-in-Err-clause-without g c =
    let k = c.args.key.now.numbers in
    let rows = c.args.self.now.rows.items in
    ap (with_rows (bucket_of c.args.self.now)) (rows-lacking k rows c.in-Err._before c.requires.ascending (subst (λ xs. FitsBefore k xs c.in-Err._before) c.as_slice.ensures.value c.in-Err.ensures.found))
