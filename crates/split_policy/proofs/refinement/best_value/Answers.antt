use Rattle.std.proofs.Common.{◌-◌, ◌++◌, ◌∷◌, [], ◌∙◌, sym, ap, slice_index, take, arith}
use Rattle.std.proofs.lemmas.List.{take_all}
use Rattle.split_policy.specs.Rows.{keys_of, numbers_in, count_below}
use Rattle.split_policy.specs.Candidates.{dividing, best_of}
use Rattle.split_policy.proofs.Best.{dividing-more, best-values}
use Rattle.split_policy.proofs.Counting.{left-counted, right-counted}
use Rattle.split_policy.proofs.Values.{numbers-long, number-at}
use Rattle.split_policy.proofs.refinement.best_value.Goals as goal

pub loop-row-preserved : goal.loop-row-preserved
loop-row-preserved g c =
    let a = c.args.a in
    let keys = keys_of c.args.rows.now in
    let vs = numbers_in (keys_of c.args.rows.now) c.args.a in
    let ns = c.ascending-numbers.result.items in
    let i = c.loop-row.row-index in
    let v = slice_index c.row-item.result.key.numbers c.args.a in
    let count = c.below-left.ensures.count ∙ ap (λ ns. count_below ns v) c.deref.ensures.0 in
    c.consider.ensures keys (dividing keys a (take i vs))
    (left-counted keys a ns c.ascending-numbers.ensures v ∙ sym count)
    (right-counted keys a ns c.ascending-numbers.ensures v ∙ (λ j. sym c.len.ensures.value j - sym count j))
    c.loop-row.invariant
    ∙ ap (λ w. best_of keys (dividing keys a (take i vs) ++ dividing keys a (w ∷ []))) (sym (number-at c.args.rows.now a i c.row-item.result c.loop-row-test.true c.row-item.is))
    ∙ ap (best_of keys) (sym (dividing-more keys a vs i 0 (omega (arith, numbers-long c.args.rows.now a, c.loop-row-test.true))))

pub returns : goal.returns
returns g c =
    c.loop-row.invariant
    ∙ ap (λ vs. best_of (keys_of c.args.rows.now) (dividing (keys_of c.args.rows.now) c.args.a vs))
    (take_all c.loop-row.row-index (numbers_in (keys_of c.args.rows.now) c.args.a) (omega (arith, numbers-long c.args.rows.now c.args.a, c.loop-row-test.false)))
    ∙ best-values (keys_of c.args.rows.now) c.args.a
