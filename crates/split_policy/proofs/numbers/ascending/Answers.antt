use Rattle.std.proofs.Common.{List, ℕ, length, ◌∙◌, sym, ap, subst}
use Rattle.std.specs.Prelude.{IsPermutation}
use Rattle.std.proofs.lemmas.List.{take_all}
use Rattle.std.proofs.lemmas.List.Sorted.{IsNonDecreasingBy-from_sort}
use Rattle.split_policy.proofs.Counting.{refilled}
use Rattle.split_policy.specs.Rows.{keys_of, numbers_in, AreAscending}
use Rattle.split_policy.proofs.numbers.ascending.Goals as goal

pub returns : goal.returns
returns g c =
    let all = take_all c.loop-row.row-index c.args.rows.now c.loop-row-test.false in
    let was = c.deref_mut.ensures.value ∙ c.loop-row.invariant ∙ ap (λ rows. numbers_in (keys_of {K = g.row.K} rows) c.args.a) all in
    subst (AreAscending (keys_of c.args.rows.now) c.args.a)
    (sym (refilled c.loop-row.numbers.items c.sort_unstable.new.self (c.sort_unstable.ensures.len ∙ ap length c.deref_mut.ensures.value)))
    (record {
      same = subst (λ (xs : List ℕ). IsPermutation xs c.sort_unstable.new.self) was c.sort_unstable.ensures.permutation;
      ascend = IsNonDecreasingBy-from_sort (λ n. n) c.sort_unstable.new.self c.sort_unstable.ensures.sorted;
    })
