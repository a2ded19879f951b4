use Rattle.std.proofs.Common.{◌≡◌, ◌≢◌, ◌<◌, ◌↔◌, ◌∙◌, ◌+◌, List, flat_map, length, slice_index, sym, ap, subst, arith, true≢false}
use Rattle.std.specs.Prelude.{IsTrue}
use Rattle.std.proofs.lemmas.List.Sums.{fold-append}
use Rattle.grid_types.specs.Shapes.{data_page}
use Rattle.grid_types.specs.declared.update.Record.{Record}
use Rattle.grid_types.proofs.Places.{within-limits}
use Rattle.disk_trait.proofs.Calls.{reads_then}
use Rattle.grid_model.specs.Buckets.{SpellsBucket}
use Rattle.grid_model.specs.Images.{entry_page}
use Rattle.grid_model.specs.Lawful.{nowhere}
use Rattle.grid_model.proofs.Gathered.{put_in}
use Rattle.bucket_page.specs.OnPage.{bucket_told}
use Rattle.grid_check.specs.Dumps.{put_all, rows_told, PutsBucket}
use Rattle.grid_check.specs.Marks.{numbers_below}
use Rattle.grid_check.specs.Rules.{HasBucket}
use Rattle.grid_check.proofs.Counting.{one_more, no_fewer, no_more_than_all, below_next}
use Rattle.grid_check.proofs.Tabled.{told_more, told_same, nowhere_there, rows_spelled}
use Rattle.grid_check.proofs.Tally.{all_told}
use Rattle.grid_check.proofs.gathering.put_buckets.Goals as goal

pub loop-number-preserved-then-not-is_numbered : goal.loop-number-preserved-then-not-is_numbered
loop-number-preserved-then-not-is_numbered g c =
    let i = c.loop-number.invariant in
    let n = c.loop-number.number in
    let s = c.args.geometry.now.shape in
    let image = g.D.Disk.seen c.args.disk.now in
    let table = c.args.pages.now.items in
    let inside : n < length table = omega (arith, c.loop-number-test.true, c.requires.count) in
    let none : slice_index table n ≢ nowhere → ⊥ = λ named. true≢false (sym (c.is_numbered.ensures.1 (record { inside = inside; somewhere = named })) ∙ c.if-not-is_numbered.true) in
    record {
      good = λ h. below_next (λ m. slice_index table m ≢ nowhere → HasBucket g.row.K s image table m) n (i.good h) (λ named. absurd (none named));
      told = λ h. below_next (λ m. slice_index table m ≢ nowhere → SpellsBucket s.capacity (entry_page s image table m) (bucket_told g.row.K (entry_page s image table m))) n (i.told h) (λ named. absurd (none named));
      put = λ h. i.put h ∙ ap (λ (rows : List (Record g.row.K)). put_all c.args.table.now.entries rows) (sym (told_same (rows_told g.row.K s image table) table n (nowhere_there table n none)));
      same = i.same;
      ticks = omega (arith, i.ticks, no_fewer table n inside);
    }

pub returns-in_err-put_bucket-clause-ticks : goal.returns-in_err-put_bucket-clause-ticks
returns-in_err-put_bucket-clause-ticks g c =
    let n = c.loop-number.number in
    let table = c.args.pages.now.items in
    let is = c.is_numbered.ensures.0 c.if-not-is_numbered.false in
    omega (arith, c.put_bucket.ensures.ticks, c.loop-number.invariant.ticks, one_more table n is.inside is.somewhere, no_more_than_all table (n + 1))

pub returns-then-not-branch-clause-ticks : goal.returns-then-not-branch-clause-ticks
returns-then-not-branch-clause-ticks g c =
    let n = c.loop-number.number in
    let table = c.args.pages.now.items in
    let is = c.is_numbered.ensures.0 c.if-not-is_numbered.false in
    omega (arith, c.put_bucket.ensures.ticks, c.loop-number.invariant.ticks, one_more table n is.inside is.somewhere, no_more_than_all table (n + 1))

pub returns-then-not-branch-clause-judged : goal.returns-then-not-branch-clause-judged
returns-then-not-branch-clause-judged g c = λ h.
    let i = c.loop-number.invariant in
    let n = c.loop-number.number in
    let s = c.args.geometry.now.shape in
    let table = c.args.pages.now.items in
    let is = c.is_numbered.ensures.0 c.if-not-is_numbered.false in
    let judged = subst (λ x. IsTrue c.in_ok-put_bucket.field-0 ↔ HasBucket g.row.K s x table n) (i.same.seen h) (c.in_ok-put_bucket.ensures.judged (i.same.honest ∙ h)) in
    record {
      number = n;
      inside = is.inside;
      named = is.somewhere;
      page_is = c.data_page.ensures.value ∙ ap (λ l. data_page s (slice_index l n)) c.list.ensures.value;
      bad = λ has. true≢false (sym (judged.1 has) ∙ c.if-not-branch.true);
      before = i.good h;
    }

pub loop-number-preserved : goal.loop-number-preserved
loop-number-preserved g c =
    let i = c.loop-number.invariant in
    let n = c.loop-number.number in
    let s = c.args.geometry.now.shape in
    let image = g.D.Disk.seen c.args.disk.now in
    let table = c.args.pages.now.items in
    let is = c.is_numbered.ensures.0 c.if-not-is_numbered.false in
    let e = c.in_ok-put_bucket.ensures in
    let old = c.loop-number.table.entries in
    let new = c.put_bucket.new.table.entries in
    let here : IsTrue (g.D.Disk.honest c.args.disk.now) → PutsBucket g.row.K s image table n old new = λ h. subst (λ x. PutsBucket g.row.K s x table n old new) (i.same.seen h) (e.put (i.same.honest ∙ h) c.if-not-branch.false) in
    record {
      good = λ h. below_next (λ m. slice_index table m ≢ nowhere → HasBucket g.row.K s image table m) n (i.good h) (λ named. (subst (λ x. IsTrue c.in_ok-put_bucket.field-0 ↔ HasBucket g.row.K s x table n) (i.same.seen h) (e.judged (i.same.honest ∙ h))).0 c.if-not-branch.false);
      told = λ h. below_next (λ m. slice_index table m ≢ nowhere → SpellsBucket s.capacity (entry_page s image table m) (bucket_told g.row.K (entry_page s image table m))) n (i.told h) (λ named. (here h).spelled);
      put = λ h.
          (here h).put ∙ ap (λ t. put_all t (rows_told g.row.K s image table n)) (i.put h)
          ∙ sym (fold-append put_in c.args.table.now.entries (flat_map (rows_told g.row.K s image table) (numbers_below table n)) (rows_told g.row.K s image table n))
          ∙ ap (λ (rows : List (Record g.row.K)). put_all c.args.table.now.entries rows) (sym (told_more (rows_told g.row.K s image table) table n is.somewhere));
      same = reads_then i.same e.same;
      ticks = omega (arith, e.ticks, i.ticks, one_more table n is.inside is.somewhere);
    }

pub returns-clause-put : goal.returns-clause-put
returns-clause-put g c = λ h ok bs has.
    let s = c.args.geometry.now in
    let i = c.loop-number.invariant in
    let table = c.args.pages.now.items in
    let image = g.D.Disk.seen c.args.disk.now in
    let end : c.loop-number.number ≡ length table = omega (arith, c.loop-number-test.false, c.loop-number.auto.number-end, c.requires.count) in
    let told = all_told {K = g.row.K} s.shape c.requires.few (within-limits s.shape s.lawful).small_capacity image table (λ n had. i.told h n (omega (arith, had.inside, end)) had.named) bs has in
    i.put h ∙ ap (λ n. put_all c.args.table.now.entries (flat_map (rows_told g.row.K s.shape image table) (numbers_below table n))) end
    ∙ ap (λ (rows : List (Record g.row.K)). put_all c.args.table.now.entries rows) (sym (rows_spelled {K = g.row.K} s.shape image table bs told ∙ ap (flat_map (rows_told g.row.K s.shape image table)) has.numbers))
