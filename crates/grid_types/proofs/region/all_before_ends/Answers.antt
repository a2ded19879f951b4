use Rattle.std.proofs.Common.{◌≤◌, sym, ◌∙◌, arith, map, slice_index}
use Rattle.std.proofs.lemmas.List.{length-map, get_or-map}
use Rattle.grid_types.specs.declared.query.Side.TheVariants.{Any}
use Rattle.grid_types.specs.Queries.{end_of}
use Rattle.grid_types.proofs.Numbers.{all-at-most, one-above, one-more}
use Rattle.grid_types.proofs.region.all_before_ends.Goals as goal

pub loop-a-preserved : goal.loop-a-preserved
loop-a-preserved g c =
    let end = get_or-map end_of c.args.sides.now c.loop-a.a Any 0 (omega (arith, c.told-sides, c.loop-a-test.true)) in
    one-more (λ k. slice_index c.args.numbers.now k ≤ slice_index (map end_of c.args.sides.now) k) c.loop-a.a c.loop-a.invariant (omega (arith, c.if-end-numbers.false, c.end.ensures, end))

pub returns-then-end-numbers : goal.returns-then-end-numbers
returns-then-end-numbers g c =
    let a = c.loop-a.a in
    let end = get_or-map end_of c.args.sides.now a Any 0 (omega (arith, c.told-sides, c.loop-a-test.true)) in
    sym (one-above c.args.numbers.now (map end_of c.args.sides.now) a (omega (arith, c.told-numbers, c.loop-a-test.true)) (omega (arith, c.if-end-numbers.true, c.end.ensures, end)))

pub returns : goal.returns
returns g c =
    let long = length-map c.args.sides.now end_of in
    sym (all-at-most c.args.numbers.now (map end_of c.args.sides.now) (c.told-numbers ∙ sym c.told-sides ∙ sym long) (λ i h. c.loop-a.invariant i (omega (arith, h, c.told-numbers, c.loop-a-test.false))))
