use Rattle.std.proofs.Common.{◌≡◌, ◌∙◌, ℕ, sym, ap, arith, cond, Bool}
use Rattle.std.proofs.lemmas.List.FromFn.{length-range_with_len}
use Rattle.grid_model.proofs.Counts.{length-part}
use Rattle.grid_model.specs.Lists.{below}
use Rattle.directory_changes.specs.Changes.{holds_cell}
use Rattle.directory_changes.proofs.Among.{holds-tells, holds-told}
use Rattle.directory_changes.proofs.Counted.{count-more}
use Rattle.directory_changes.proofs.Truths.{same-truth}
use Rattle.directory_changes.proofs.counting.count_parts.Goals as goal
use Rattle.directory_changes.proofs.counting.count_parts.Goals.{then-holds_cell, else-holds_cell}

pub loop-part-preserved : goal.loop-part-preserved
loop-part-preserved g c =
    let ns = c.args.dims.now.intervals in
    let b = c.args.cells.now in
    let p = c.loop-part.part in
    let same : c.holds_cell.result ≡ holds_cell {K = g.row.K} ns b p = same-truth c.holds_cell.result (holds_cell {K = g.row.K} ns b p) c.holds_cell.ensures (holds-tells ns b c.requires p, holds-told ns b c.requires p) in
    let more = count-more (holds_cell {K = g.row.K} ns b) p in
    elim c.if-holds_cell.branch [
      | then-holds_cell w ↦
          let one : ◌≡◌ {A = ℕ} (cond (holds_cell {K = g.row.K} ns b p) 1 0) 1 = ap (λ (t : Bool). cond {A = ℕ} t 1 0) (sym same ∙ w.if-holds_cell.true) in
          omega (arith, w.count-is, c.loop-part.invariant, more, one)
      | else-holds_cell w ↦
          let none : ◌≡◌ {A = ℕ} (cond (holds_cell {K = g.row.K} ns b p) 1 0) 0 = ap (λ (t : Bool). cond {A = ℕ} t 1 0) (sym same ∙ w.if-holds_cell.false) in
          omega (arith, w.count-is, c.loop-part.invariant, more, none)
    ]

pub overflow_add-count : goal.overflow_add-count
overflow_add-count g c =
    omega (
      arith,
      c.loop-part.invariant,
      length-part (holds_cell {K = g.row.K} c.args.dims.now.intervals c.args.cells.now) (below c.loop-part.part),
      length-range_with_len 0 c.loop-part.part,
      c.loop-part-test.true,
      c.div_ceil-part-end.type_inv,
    )
