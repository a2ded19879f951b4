use Rattle.std.proofs.Common.{sym, ◌∙◌, ap, ◌&&◌, nat_le}
use lib.Pointwise.{pointwise}
use Rattle.grid_types.proofs.Numbers.{decided-within}
use Rattle.grid_types.proofs.region.all_between.Goals as goal

pub returns-then-at_most-clause-within : goal.returns-then-at_most-clause-within
returns-then-at_most-clause-within g c = decided-within c.at_most-then-at_most.result c.args.lo.now c.args.hi.now c.args.at.now (c.told-lo ∙ sym c.told-at) (c.told-at ∙ sym c.told-hi)
    (c.at_most-then-at_most.ensures ∙ ap (λ t. t && pointwise nat_le c.args.at.now c.args.hi.now) (sym c.if-at_most.true ∙ c.at_most.ensures))

pub returns-else-at_most-clause-within : goal.returns-else-at_most-clause-within
returns-else-at_most-clause-within g c = decided-within c.at_most.result c.args.lo.now c.args.hi.now c.args.at.now (c.told-lo ∙ sym c.told-at) (c.told-at ∙ sym c.told-hi)
    (c.if-at_most.false ∙ ap (λ t. t && pointwise nat_le c.args.at.now c.args.hi.now) (sym c.if-at_most.false ∙ c.at_most.ensures))
