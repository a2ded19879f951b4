use Rattle.std.proofs.Common.{◌-◌, ◌++◌, ◌∷◌, [], ◌∙◌, sym, ap, get_or, length, take, arith}
use Rattle.std.proofs.lemmas.List.{append_assoc, take_all}
use Rattle.split_policy.specs.Candidates.{dividing, best_of}
use Rattle.split_policy.proofs.Best.{dividing-more}
use Rattle.split_policy.proofs.Counting.{left-counted, right-counted}
use Rattle.split_policy.proofs.existing.best_among.Goals as goal

pub loop-value-preserved : goal.loop-value-preserved
loop-value-preserved c =
    let a = c.args.attribute in
    let bs = c.args.boundaries.now in
    let ns = c.args.numbers.now in
    let i = c.loop-value.value-index in
    let v = get_or c.args.boundaries.now c.loop-value.value-index 0 in
    record {
      best = λ keys cs h e.
          c.consider.ensures keys (cs ++ dividing keys a (take i bs))
          (left-counted keys a ns h v ∙ sym c.below-left.ensures.count)
          (right-counted keys a ns h v ∙ ap (λ n. length ns - n) (sym c.below-left.ensures.count))
          (c.loop-value.invariant.best keys cs h e)
          ∙ ap (best_of keys) (append_assoc cs (dividing keys a (take i bs)) (dividing keys a (v ∷ [])))
          ∙ ap (λ ds. best_of keys (cs ++ ds)) (sym (dividing-more keys a bs i 0 c.loop-value-test.true));
      known = λ k j p q r. omega (arith, c.below-left.ensures.each k p, c.requires.boundaries i j 0 (omega (arith, q)) r);
    }

pub returns : goal.returns
returns c = λ keys cs h e.
    c.loop-value.invariant.best keys cs h e
    ∙ ap (λ bs. best_of keys (cs ++ dividing keys c.args.attribute bs)) (take_all c.loop-value.value-index c.args.boundaries.now (omega (arith, c.loop-value-test.false)))
