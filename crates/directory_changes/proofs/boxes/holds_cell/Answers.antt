use Rattle.std.proofs.Common.{◌∙◌, sym, ◌/◌, eqb-true, eq-eqb, true≢false}
use Rattle.directory_changes.proofs.Walked.{held, holds-at, holds-none, upright-where}
use Rattle.directory_changes.proofs.boxes.holds_cell.Goals as goal

pub returns-then-not-is_upright : goal.returns-then-not-is_upright
returns-then-not-is_upright g c = (
  λ no. absurd (true≢false (sym no)),
  λ h. absurd (true≢false (sym (c.is_upright.ensures.1 (upright-where c.args.dims.now.intervals c.args.cells.now c.args.part h)) ∙ c.if-not-is_upright.true)),
)

pub returns-in-Some : goal.returns-in-Some
returns-in-Some g c =
    let ns = c.args.dims.now.intervals in
    let b = c.args.cells.now in
    let at = c.in-Some.at in (
      λ yes. held ns b c.args.part at c.in-Some.ensures (eqb-true (at / 1000) c.args.part yes),
      λ h. eq-eqb (at / 1000) c.args.part (holds-at ns b c.args.part at c.in-Some.ensures h),
    )

pub returns-in-None : goal.returns-in-None
returns-in-None g c = (
  λ no. absurd (true≢false (sym no)),
  λ h. absurd (holds-none c.args.dims.now.intervals c.args.cells.now c.args.part c.in-None.ensures h),
)
