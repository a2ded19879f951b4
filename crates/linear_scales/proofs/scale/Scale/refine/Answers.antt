use Rattle.std.proofs.Common.{arith, subst, List, ℕ}
use Rattle.linear_scales.specs.Searches.{FitsAt}
use Rattle.linear_scales.proofs.Searching.{takes}
use Rattle.linear_scales.proofs.scale.Scale.refine.Goals as goal

pub invariant_of-self : goal.invariant_of-self
invariant_of-self c =
    let fits = subst (λ (bs : List ℕ). FitsAt bs c.args.v c.in-Err.field-0) c.deref.ensures.value c.in-Err.ensures in
    record {
      lawful = takes c.self.inside.boundaries.items c.put.new.list.items c.args.v c.in-Err.field-0 c.self.inside.limit c.self.invariant.lawful fits c.requires c.ranges.v.fits (omega (arith, c.if-len-self.false, c.len.ensures)) c.put.ensures.items;
      room = omega (arith, c.put.ensures.capacity, c.self.invariant.room);
    }
