use Rattle.std.proofs.Common.{◌+◌, ◌∙◌, ℕ, sym, ap, arith}
use Rattle.file_roots.proofs.Counting.{count_more, count_same}
use Rattle.file_roots.proofs.root.count_named.Goals as goal
use Rattle.file_roots.proofs.root.count_named.Goals.{then-page, else-page}

pub loop-page-preserved : goal.loop-page-preserved
loop-page-preserved c = elim c.if-page.branch [
  | then-page w ↦ (w.count-is ∙ ap (λ (n : ℕ). n + 1) c.loop-page.invariant.0 ∙ sym (count_more c.args.table.now c.loop-page.page-index c.loop-page-test.true w.if-page.true), omega (arith, w.count-is, c.loop-page.invariant.1))
  | else-page w ↦ (w.count-is ∙ c.loop-page.invariant.0 ∙ sym (count_same c.args.table.now c.loop-page.page-index c.loop-page-test.true w.if-page.false), omega (arith, w.count-is, c.loop-page.invariant.1))
]
