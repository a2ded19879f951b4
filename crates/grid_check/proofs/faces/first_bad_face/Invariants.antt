use Rattle.std.proofs.Common.{get_or}
use Rattle.linear_scales.specs.Limited.{scales_of}
use Rattle.grid_model.specs.Layouts.{IsDrawn}
use Rattle.grid_check.specs.Rules.{NumbersKeep}
use Rattle.grid_check.specs.declared.holding.Holding.{Holding}
use Rattle.grid_check.proofs.faces.first_bad_face.Given as goal

abbrev pub invariant-loop-number : goal.invariant-loop-number
invariant-loop-number g l = record {
  good : NumbersKeep l.table.items (λ m. (d : Holding g.row.K) → IsDrawn (scales_of l.scales) (record { region = (get_or l.holdings m d).region; turn = 0 })) l.number;
}
