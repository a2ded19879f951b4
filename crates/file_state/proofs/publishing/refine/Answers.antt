use Rattle.std.proofs.Common.{subst}
use Rattle.grid_types.specs.declared.layout_change.LayoutChange.{LayoutChange}
use Rattle.file_state.specs.Publishings.{TakesNote}
use Rattle.file_state.proofs.Scaling.{not_refused}
use Rattle.file_state.proofs.publishing.refine.Goals as goal

pub unreachable-requires : goal.unreachable-requires
unreachable-requires g c =
    not_refused g.row.K c.args.scales.now c.in-Cut.cut c.in-Err.field-0
    (subst (λ (n : LayoutChange). TakesNote g.row.K c.args.scales.now n) c.in-Cut.is c.requires c.if-cut.true)
    c.in-Err.ensures.refused
