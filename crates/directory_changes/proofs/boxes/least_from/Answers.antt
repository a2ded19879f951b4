use Rattle.std.proofs.Common.{◌≡◌, ◌-◌, arith, subst, ℕ}
use Rattle.directory_changes.proofs.Walked.{Walked, walk-begins, step-back, walked-all}
use Rattle.directory_changes.proofs.boxes.least_from.Goals as goal

pub loop-a-init : goal.loop-a-init
loop-a-init g c =
    walk-begins c.args.intervals.now c.args.cells.now.lo c.args.cells.now.hi c.args.from g.row.K (omega arith) (omega (arith, c.requires.corners.low.count)) (omega (arith, c.requires.corners.high.count))

pub nonzero_rem-rest : goal.nonzero_rem-rest
nonzero_rem-rest g c = omega (arith, c.requires.lawful.each (c.loop-a.a - 1) (omega (arith, c.loop-a.auto.a, c.loop-a-test.true)))

pub nonzero_div-rest : goal.nonzero_div-rest
nonzero_div-rest g c = omega (arith, c.requires.lawful.each (c.loop-a.a - 1) (omega (arith, c.loop-a.auto.a, c.loop-a-test.true)))

pub least_with-least-requires-clause-few : goal.least_with-least-requires-clause-few
least_with-least-requires-clause-few g c = (step-back c.args.intervals.now c.args.cells.now c.args.from c.loop-a.a c.loop-a.rest c.loop-a.size c.loop-a.lowest c.loop-a.least c.requires.lawful c.requires.corners c.requires.upright (omega (arith, c.loop-a-test.true)) (omega (arith, c.loop-a.auto.a)) c.loop-a.invariant).few

pub least_with-least-requires-clause-high : goal.least_with-least-requires-clause-high
least_with-least-requires-clause-high g c = (step-back c.args.intervals.now c.args.cells.now c.args.from c.loop-a.a c.loop-a.rest c.loop-a.size c.loop-a.lowest c.loop-a.least c.requires.lawful c.requires.corners c.requires.upright (omega (arith, c.loop-a-test.true)) (omega (arith, c.loop-a.auto.a)) c.loop-a.invariant).high

pub least_with-least-requires-clause-upright : goal.least_with-least-requires-clause-upright
least_with-least-requires-clause-upright g c = c.requires.upright (c.loop-a.a - 1) (omega (arith, c.loop-a.auto.a, c.loop-a-test.true, c.requires.corners.low.count))

pub least_with-least-requires-clause-low : goal.least_with-least-requires-clause-low
least_with-least-requires-clause-low g c = (step-back c.args.intervals.now c.args.cells.now c.args.from c.loop-a.a c.loop-a.rest c.loop-a.size c.loop-a.lowest c.loop-a.least c.requires.lawful c.requires.corners c.requires.upright (omega (arith, c.loop-a-test.true)) (omega (arith, c.loop-a.auto.a)) c.loop-a.invariant).low

pub least_with-least-requires-clause-inside : goal.least_with-least-requires-clause-inside
least_with-least-requires-clause-inside g c = (step-back c.args.intervals.now c.args.cells.now c.args.from c.loop-a.a c.loop-a.rest c.loop-a.size c.loop-a.lowest c.loop-a.least c.requires.lawful c.requires.corners c.requires.upright (omega (arith, c.loop-a-test.true)) (omega (arith, c.loop-a.auto.a)) c.loop-a.invariant).inside

pub overflow_add-lowest : goal.overflow_add-lowest
overflow_add-lowest g c = omega (arith, (step-back c.args.intervals.now c.args.cells.now c.args.from c.loop-a.a c.loop-a.rest c.loop-a.size c.loop-a.lowest c.loop-a.least c.requires.lawful c.requires.corners c.requires.upright (omega (arith, c.loop-a-test.true)) (omega (arith, c.loop-a.auto.a)) c.loop-a.invariant).lowest_fits)

pub overflow_mul-size : goal.overflow_mul-size
overflow_mul-size g c = omega (arith, (step-back c.args.intervals.now c.args.cells.now c.args.from c.loop-a.a c.loop-a.rest c.loop-a.size c.loop-a.lowest c.loop-a.least c.requires.lawful c.requires.corners c.requires.upright (omega (arith, c.loop-a-test.true)) (omega (arith, c.loop-a.auto.a)) c.loop-a.invariant).size_fits)

pub loop-a-preserved : goal.loop-a-preserved
loop-a-preserved g c = (step-back c.args.intervals.now c.args.cells.now c.args.from c.loop-a.a c.loop-a.rest c.loop-a.size c.loop-a.lowest c.loop-a.least c.requires.lawful c.requires.corners c.requires.upright (omega (arith, c.loop-a-test.true)) (omega (arith, c.loop-a.auto.a)) c.loop-a.invariant).on c.least_with-least.result c.least_with-least.ensures

pub returns : goal.returns
returns g c =
    let l = c.loop-a in
    let none : l.a ≡ 0 = omega (arith, c.loop-a-test.false) in
    walked-all c.args.intervals.now c.args.cells.now c.args.from l.rest l.size l.lowest l.least c.requires.corners c.requires.upright c.requires.inside
    (subst (λ (x : ℕ). Walked c.args.intervals.now c.args.cells.now.lo c.args.cells.now.hi c.args.from x l.rest l.size l.lowest l.least) none l.invariant)
