use Rattle.std.proofs.Common.{◌≤◌, sym, ◌∙◌, arith, map, slice_index}
use Rattle.std.proofs.lemmas.List.{length-map, get_or-map}
use Rattle.grid_types.specs.declared.query.Side.TheVariants.{Any}
use Rattle.grid_types.specs.Queries.{begin_of}
use Rattle.grid_types.proofs.Numbers.{all-at-most, one-above, one-more}
use Rattle.grid_types.proofs.region.all_behind_begins.Goals as goal

pub loop-a-preserved : goal.loop-a-preserved
loop-a-preserved g c =
    let begin = get_or-map begin_of c.args.sides.now c.loop-a.a Any 0 (omega (arith, c.told-sides, c.loop-a-test.true)) in
    one-more (λ k. slice_index (map begin_of c.args.sides.now) k ≤ slice_index c.args.numbers.now k) c.loop-a.a c.loop-a.invariant (omega (arith, c.if-numbers-a.false, c.begin.ensures, begin))

pub returns-then-numbers-a : goal.returns-then-numbers-a
returns-then-numbers-a g c =
    let a = c.loop-a.a in
    let begin = get_or-map begin_of c.args.sides.now a Any 0 (omega (arith, c.told-sides, c.loop-a-test.true)) in
    let long = length-map c.args.sides.now begin_of in
    sym (one-above (map begin_of c.args.sides.now) c.args.numbers.now a (omega (arith, c.told-sides, long, c.loop-a-test.true)) (omega (arith, c.if-numbers-a.true, c.begin.ensures, begin)))

pub returns : goal.returns
returns g c =
    let long = length-map c.args.sides.now begin_of in
    sym (all-at-most (map begin_of c.args.sides.now) c.args.numbers.now (long ∙ c.told-sides ∙ sym c.told-numbers) (λ i h. c.loop-a.invariant i (omega (arith, h, long, c.told-sides, c.loop-a-test.false))))
