use Rattle.std.proofs.Common.{sym, ◌∙◌, arith, length}
use Rattle.grid_types.specs.Regions.{touch_along}
use Rattle.grid_types.proofs.Adjoining.{one-passes, none-passes}
use Rattle.grid_types.proofs.region.Region.makes_a_box.Goals as goal

pub returns-then-touches_along : goal.returns-then-touches_along
returns-then-touches_along g c =
    sym (one-passes (touch_along c.args.self.now c.args.other.now) 0 (length c.args.self.now.lo) c.loop-a.a (omega arith) (omega (arith, c.loop-a-test.true, c.count-a-end.ensures.count)) (sym c.touches_along.ensures ∙ c.if-touches_along.true))

pub returns : goal.returns
returns g c =
    sym (none-passes (touch_along c.args.self.now c.args.other.now) 0 (length c.args.self.now.lo) (λ a l. c.loop-a.invariant a (omega (arith, l, c.loop-a-test.false, c.count-a-end.ensures.count))))
