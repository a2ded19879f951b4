use Rattle.std.proofs.Common.{◌↔◌, ◌&&◌, map, nat_le, IsTrue, sym, subst, ap, ◌∙◌}
use lib.Pointwise.{pointwise}
use Rattle.grid_types.specs.Queries.{begin_of}
use Rattle.grid_types.specs.Regions.{HaveKeyInCommon}
use Rattle.grid_types.proofs.Meeting.{met}
use Rattle.grid_types.proofs.region.Region.meets.Goals as goal

pub returns-then-all_before_ends-clause-common : goal.returns-then-all_before_ends-clause-common
returns-then-all_before_ends-clause-common g c f lawful =
    let r = c.args.self.now in
    let sides = c.args.query.now.sides in
    let value = c.all_behind_begins.ensures ∙ ap (λ t. t && pointwise nat_le (map begin_of sides) r.hi) (sym c.if-all_before_ends.true ∙ c.all_before_ends.ensures) in
    subst (λ t. IsTrue t ↔ HaveKeyInCommon r sides) (sym value) (met r sides f lawful)

pub returns-else-all_before_ends-clause-common : goal.returns-else-all_before_ends-clause-common
returns-else-all_before_ends-clause-common g c f lawful =
    let r = c.args.self.now in
    let sides = c.args.query.now.sides in
    let value = c.if-all_before_ends.false ∙ ap (λ t. t && pointwise nat_le (map begin_of sides) r.hi) (sym c.if-all_before_ends.false ∙ c.all_before_ends.ensures) in
    subst (λ t. IsTrue t ↔ HaveKeyInCommon r sides) (sym value) (met r sides f lawful)
