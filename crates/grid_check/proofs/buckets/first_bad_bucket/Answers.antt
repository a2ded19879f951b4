use Rattle.std.proofs.Common.{◌≡◌, ◌≢◌, ◌<◌, ◌↔◌, ◌∙◌, ◌+◌, ℕ, length, slice_index, slice_index_or, refl, sym, ap, subst, arith, true≢false}
use Rattle.std.specs.Prelude.{IsSome, IfSome, OnSome, List}
use Rattle.std.proofs.lemmas.List.{length-set}
use Rattle.grid_types.specs.Shapes.{data_page}
use Rattle.grid_types.proofs.Places.{within-limits}
use Rattle.disk_trait.proofs.Calls.{reads_then}
use Rattle.grid_model.specs.Lawful.{nowhere}
use Rattle.grid_check.specs.Rules.{HasBucket}
use Rattle.grid_check.specs.Marks.{MarksKeys, keys_at, keys_below}
use Rattle.grid_check.specs.Reads.{HoldsBucket, AreHeld}
use Rattle.grid_check.specs.declared.holding.Holding.{Holding}
use Rattle.grid_check.proofs.Counting.{one_more, no_fewer, no_more_than_all, below_next, put_under}
use Rattle.grid_check.proofs.Marking.{marks_then}
use Rattle.grid_check.proofs.Tabled.{told_more, told_same, nowhere_there}
use Rattle.grid_check.proofs.Tally.{keys_marked}
use Rattle.grid_check.proofs.buckets.first_bad_bucket.Goals as goal

pub loop-number-preserved-then-not-is_numbered : goal.loop-number-preserved-then-not-is_numbered
loop-number-preserved-then-not-is_numbered g c =
    let i = c.loop-number.invariant in
    let n = c.loop-number.number in
    let s = c.args.geometry.now.shape in
    let image = g.D.Disk.seen c.args.disk.now in
    let table = c.args.table.now.items in
    let inside : n < length table = omega (arith, c.loop-number-test.true, c.requires.count) in
    let none : slice_index table n ≢ nowhere → ⊥ = λ named. true≢false (sym (c.is_numbered.ensures.1 (record { inside = inside; somewhere = named })) ∙ c.if-not-is_numbered.true) in
    record {
      good = λ h. below_next (λ m. slice_index table m ≢ nowhere → HasBucket g.row.K s image table m) n (i.good h) (λ named. absurd (none named));
      held = λ h. below_next (λ m. slice_index table m ≢ nowhere → (d : Holding g.row.K) → HoldsBucket s image table m (slice_index_or c.loop-number.holdings m d)) n (i.held h) (λ named. absurd (none named));
      marked = λ h. subst (λ (keys : List (List ℕ)). MarksKeys keys c.args.marks.now c.loop-number.marks) (sym (told_same (keys_at g.row.K s image table) table n (nowhere_there table n none))) (i.marked h);
      room = i.room;
      same = i.same;
      ticks = omega (arith, i.ticks, no_fewer table n inside);
    }

pub returns-in_err-held-clause-ticks : goal.returns-in_err-held-clause-ticks
returns-in_err-held-clause-ticks g c =
    let n = c.loop-number.number in
    let table = c.args.table.now.items in
    let is = c.is_numbered.ensures.0 c.if-not-is_numbered.false in
    omega (arith, c.read_held.ensures.ticks, c.loop-number.invariant.ticks, one_more table n is.inside is.somewhere, no_more_than_all table (n + 1))

pub returns-in-None-clause-ticks : goal.returns-in-None-clause-ticks
returns-in-None-clause-ticks g c =
    let n = c.loop-number.number in
    let table = c.args.table.now.items in
    let is = c.is_numbered.ensures.0 c.if-not-is_numbered.false in
    omega (arith, c.read_held.ensures.ticks, c.loop-number.invariant.ticks, one_more table n is.inside is.somewhere, no_more_than_all table (n + 1))

pub returns-in-None-clause-judged : goal.returns-in-None-clause-judged
returns-in-None-clause-judged g c = λ h.
    let i = c.loop-number.invariant in
    let n = c.loop-number.number in
    let s = c.args.geometry.now.shape in
    let image = g.D.Disk.seen c.args.disk.now in
    let table = c.args.table.now.items in
    let is = c.is_numbered.ensures.0 c.if-not-is_numbered.false in
    let judged = subst (λ x. IsSome c.in_ok-held.field-0 ↔ HasBucket g.row.K s x table n) (i.same.seen h) (c.in_ok-held.ensures.judged (i.same.honest ∙ h)) in
    record {
      number = n;
      inside = is.inside;
      named = is.somewhere;
      page_is = c.data_page.ensures.value ∙ ap (λ l. data_page s (slice_index l n)) c.list.ensures.value;
      bad = λ has. true≢false (sym (subst IsSome c.in-None.is (judged.1 has)));
      before = i.good h;
    }

pub loop-number-preserved : goal.loop-number-preserved
loop-number-preserved g c =
    let i = c.loop-number.invariant in
    let n = c.loop-number.number in
    let s = c.args.geometry.now.shape in
    let image = g.D.Disk.seen c.args.disk.now in
    let table = c.args.table.now.items in
    let is = c.is_numbered.ensures.0 c.if-not-is_numbered.false in
    let e = c.in_ok-held.ensures in
    record {
      good = λ h. below_next (λ m. slice_index table m ≢ nowhere → HasBucket g.row.K s image table m) n (i.good h) (λ named. (subst (λ x. IsSome c.in_ok-held.field-0 ↔ HasBucket g.row.K s x table n) (i.same.seen h) (e.judged (i.same.honest ∙ h))).0 (subst IsSome (sym c.in-Some.is) refl));
      held = λ h m lt named d. put_under (λ m x. slice_index table m ≢ nowhere → HoldsBucket s image table m x) c.loop-number.holdings n c.in-Some.held (omega (arith, is.inside, i.room, c.requires.room)) (λ m lt d named. i.held h m lt named d)
          (λ named. subst (λ f. IfSome f (HoldsBucket {K = g.row.K} s image table n)) c.in-Some.is (subst (λ x. IfSome c.in_ok-held.field-0 (HoldsBucket {K = g.row.K} s x table n)) (i.same.seen h) (e.held (i.same.honest ∙ h)))) m lt d named;
      marked = λ h.
          let here = subst (λ f. OnSome f (MarksKeys (keys_at g.row.K s image table n) c.loop-number.marks c.read_held.new.marks)) c.in-Some.is
          (subst (λ x. OnSome c.in_ok-held.field-0 (MarksKeys (keys_at g.row.K s x table n) c.loop-number.marks c.read_held.new.marks)) (i.same.seen h) (e.marked (i.same.honest ∙ h))) in
          subst (λ (keys : List (List ℕ)). MarksKeys keys c.args.marks.now c.read_held.new.marks) (sym (told_more (keys_at g.row.K s image table) table n is.somewhere))
          (marks_then (keys_below g.row.K s image table n) (keys_at g.row.K s image table n) c.args.marks.now c.loop-number.marks c.read_held.new.marks (i.marked h) here);
      room = length-set c.loop-number.holdings n c.in-Some.held ∙ i.room;
      same = reads_then i.same e.same;
      ticks = omega (arith, e.ticks, i.ticks, one_more table n is.inside is.somewhere);
    }

pub returns-clause-marked : goal.returns-clause-marked
returns-clause-marked g c = λ h is.
    let s = c.args.geometry.now in
    let i = c.loop-number.invariant in
    let table = c.args.table.now.items in
    let image = g.D.Disk.seen c.args.disk.now in
    let end : c.loop-number.number ≡ length table = omega (arith, c.loop-number-test.false, c.loop-number.auto.number-end, c.requires.count) in
    keys_marked {K = g.row.K} s.shape c.requires.few (within-limits s.shape s.lawful).small_capacity image table c.loop-number.holdings (i.room ∙ c.requires.room)
    (subst (λ n. AreHeld {K = g.row.K} s.shape image table c.loop-number.holdings n) end (i.held h)) c.args.marks.now c.loop-number.marks
    (subst (λ n. MarksKeys (keys_below g.row.K s.shape image table n) c.args.marks.now c.loop-number.marks) end (i.marked h))
