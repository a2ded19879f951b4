use Rattle.std.proofs.Common.{◌≡◌, ◌<◌, ◌≤◌, take, length, get_or, map, min, rules, sym, ap, subst, ◌∙◌, arith}
use Rattle.std.specs.Prelude.{T}
use Rattle.std.proofs.lemmas.List.Sums.{fold_more}
use Rattle.std.proofs.lemmas.List.{take_all}
use Rattle.std.specs.Cmp.Lexicographic.{nat_list_cmp_total}
use Rattle.std.specs.FinMap.Entries.{is_sorted, is_sorted-put}
use Rattle.grid_types.specs.declared.update.Record.{Record}
use Rattle.grid_types.specs.Keys.{key_cmp}
use Rattle.grid_model.specs.Tables.{Table, pairs_of, with_data}
use Rattle.grid_model.specs.Lone.{record_of}
use Rattle.grid_model.specs.Buckets.{IsBucket}
use Rattle.bucket_page.specs.Buckets.{bucket_of}
use Rattle.bucket_page.specs.Changing.{with_all}
use Rattle.bucket_page.proofs.Growing.{records_back, one-more}
use Rattle.bucket_page.proofs.Divided.{joined-lawful}
use Rattle.bucket_page.proofs.bucket.Bucket.join.Goals as goal

pub insert-requires : goal.insert-requires
insert-requires g c = search rules

pub loop-row-preserved : goal.loop-row-preserved
loop-row-preserved g c =
    let r = c.row-item.result in
    let at = c.loop-row.row-index in
    let e = c.insert.ensures in
    let inside : at < length c.args.other.now.rows.items = omega (arith, c.loop-row-test.true, ap length c.as_slice-row-items.ensures.value) in
    let is : r ≡ get_or c.args.other.now.rows.items at r = c.row-item.is ∙ ap (λ rows. get_or rows at r) c.as_slice-row-items.ensures.value in
    record {
      rows = e.rows ∙ ap (λ t. with_data t r.key.numbers r.value) c.loop-row.invariant.rows ∙ ap (λ x. with_data (with_all (pairs_of c.args.self.now.rows.items) (take at c.args.other.now.rows.items)) x.key.numbers x.value) is
          ∙ sym (fold_more (λ (t : Table) (x : Record g.row.K). with_data t x.key.numbers x.value) (pairs_of c.args.self.now.rows.items) c.args.other.now.rows.items at r inside);
      ascending = subst (λ es. T (is_sorted key_cmp es)) (sym e.rows) (is_sorted-put key_cmp nat_list_cmp_total r.key.numbers r.value (pairs_of c.loop-row.self.rows.items) c.loop-row.invariant.ascending);
      room = omega (arith, one-more _ _ _ e.len, c.loop-row.invariant.room);
      number = e.number ∙ c.loop-row.invariant.number;
      turn = e.turn ∙ c.loop-row.invariant.turn;
    }

pub returns-clause-joined : goal.returns-clause-joined
returns-clause-joined g c = λ region.
    let self = c.args.self.now in
    let other = c.args.other.now in
    let end : length other.rows.items ≤ c.loop-row.row-index = omega (arith, c.loop-row-test.false, ap length c.as_slice-row-items.ensures.value) in
    let all = c.loop-row.invariant.rows ∙ ap (with_all (pairs_of self.rows.items)) (take_all c.loop-row.row-index other.rows.items end) in
    let rows = sym (records_back c.loop-row.self.rows.items) ∙ ap (map record_of) all in
    let number = c.min-self.ensures ∙ ap (λ n. min n other.number) c.loop-row.invariant.number in
    λ i. record { number = number i; box = record { region = region i; turn = c.loop-row.invariant.turn i }; rows = rows i }

pub returns-clause-lawful : goal.returns-clause-lawful
returns-clause-lawful g c = λ most m n region box h f few.
    let self = c.args.self.now in
    let other = c.args.other.now in
    let end : length other.rows.items ≤ c.loop-row.row-index = omega (arith, c.loop-row-test.false, ap length c.as_slice-row-items.ensures.value) in
    let all = c.loop-row.invariant.rows ∙ ap (with_all (pairs_of self.rows.items)) (take_all c.loop-row.row-index other.rows.items end) in
    let number = c.min-self.ensures ∙ ap (λ n. min n other.number) c.loop-row.invariant.number in
    subst (IsBucket most) (sym (λ i. record { number = number i; box = record { region = region i; turn = c.loop-row.invariant.turn i }; rows = c.loop-row.self.rows.items }))
    (joined-lawful m n (bucket_of self) (bucket_of other) h f box c.loop-row.self.rows.items most all few)
