use Rattle.std.proofs.Common.{length, sym, arith}
use Rattle.split_policy.proofs.Counting.{parted}
use Rattle.split_policy.proofs.numbers.below.Goals as goal

pub returns-then-v-numbers-clause-count : goal.returns-then-v-numbers-clause-count
returns-then-v-numbers-clause-count c =
    sym (parted c.args.numbers.now c.args.v c.loop-i.i (omega (arith, c.loop-i-test.true)) c.loop-i.invariant (λ k p q. omega (arith, c.if-v-numbers.true, c.requires.ascend c.loop-i.i k 0 p q)))

pub returns-clause-count : goal.returns-clause-count
returns-clause-count c =
    sym (parted c.args.numbers.now c.args.v (length c.args.numbers.now) (omega arith) (λ k p. c.loop-i.invariant k (omega (arith, p, c.loop-i-test.false))) (λ k p q. absurd (omega (arith, p, q))))
