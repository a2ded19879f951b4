use Rattle.std.proofs.Common.{◌↔◌, ◌∙◌, List, ℕ, subst}
use Rattle.grid_model.specs.Cells.{dims, InCellBox}
use Rattle.grid_model.specs.ScaleLaws.{IsCell}
use Rattle.linear_scales.specs.Limited.{LimitedScale, scales_of}
use Rattle.linear_scales.specs.Queries.{MeetsQuery}
use Rattle.linear_scales.proofs.scales.Scales.cells_meeting.Goals as goal

pub returns-clause-meets : goal.returns-clause-meets
returns-clause-meets g c =
    subst (λ (ss : List LimitedScale). (cell : List ℕ) → IsCell (dims (scales_of ss)) cell → MeetsQuery g.row.K (scales_of ss) c.args.query.now.sides cell ↔ InCellBox {K = g.row.K} c.ranges_of.result cell)
    (c.deref.ensures.value ∙ c.self.view_is) c.ranges_of.ensures.meets
