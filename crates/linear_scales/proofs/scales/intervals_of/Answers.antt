use Rattle.std.proofs.Common.{◌≡◌, ◌∙◌, ap, sym, subst, arith, get_or, slice_index}
use Rattle.std.proofs.lemmas.List.{get_or_read, length-set, length-map}
use Rattle.grid_model.specs.Scales.{interval}
use Rattle.grid_model.specs.Cells.{dims}
use Rattle.grid_model.specs.ScaleLaws.{IsCell}
use Rattle.grid_model.proofs.CellLaws.{key-has-cell}
use Rattle.linear_scales.specs.Limited.{LimitedScale, scales_of}
use Rattle.grid_model.proofs.Filled.{step}
use Rattle.linear_scales.proofs.Filling.{cell-filled}
use Rattle.linear_scales.proofs.scales.intervals_of.Goals as goal

pub loop-a-preserved : goal.loop-a-preserved
loop-a-preserved g c = record {
  count = length-set c.loop-a.cell c.loop-a.a c.interval.result ∙ c.loop-a.invariant.count;
  each = step (λ k x. (d : LimitedScale) → x ≡ interval (get_or c.args.scales.now k d).boundaries (slice_index c.args.numbers.now k)) c.loop-a.cell c.loop-a.a c.interval.result
      (omega (arith, c.loop-a.invariant.count, c.loop-a-test.true)) c.loop-a.invariant.each
      (λ d. c.interval.ensures.value ∙ ap (λ (s : LimitedScale). interval s.boundaries (slice_index c.args.numbers.now c.loop-a.a)) (get_or_read c.args.scales.now c.loop-a.a c.index-scales-a.result (omega (arith, c.requires, c.loop-a-test.true)) c.index-scales-a.is d));
}

pub returns-clause-value : goal.returns-clause-value
returns-clause-value g c =
    cell-filled c.args.scales.now c.args.numbers.now c.loop-a.cell (c.told-numbers ∙ sym c.requires) (c.loop-a.invariant.count ∙ sym c.requires)
    (λ k d p. c.loop-a.invariant.each k (omega (arith, p, c.requires, c.loop-a-test.false)) d)

pub returns-clause-inside : goal.returns-clause-inside
returns-clause-inside g c = subst (IsCell (dims (scales_of c.args.scales.now))) (sym (returns-clause-value g c)) (key-has-cell (scales_of c.args.scales.now) c.args.numbers.now (omega (arith, c.told-numbers, c.requires, length-map c.args.scales.now (λ s. s.boundaries))))
