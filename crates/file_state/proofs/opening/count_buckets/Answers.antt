use Rattle.std.proofs.Common.{◌≡◌, ◌≤◌, ◌<◌, ◌+◌, ℕ, Bool, true, false, cond, List, ap, ◌∙◌, length, take, arith}
use Rattle.grid_model.specs.Lawful.{pages_named}
use Rattle.file_state.specs.Openings.{is_named}
use Rattle.file_state.proofs.Beginning.{named_apart, not_named}
use Rattle.file_state.proofs.Named.{named_more, named_few}
use Rattle.file_state.proofs.opening.count_buckets.Goals as goal
use Rattle.file_state.proofs.opening.count_buckets.Goals.{then-page, else-page}

counted : (t : List ℕ) (i before after : ℕ) (b : Bool) → is_named t i ≡ b → i < length t → before ≡ length (pages_named (take i t)) → after ≡ before + cond b 1 0 → after ≡ length (pages_named (take (i + 1) t))
counted t i before after b named low is later =
    let more : length (pages_named (take (i + 1) t)) ≡ length (pages_named (take i t)) + cond (is_named t i) 1 0 = named_more t i low in
    let same : ◌≡◌ {A = ℕ} (cond (is_named t i) 1 0) (cond b 1 0) = ap (λ (s : Bool). cond {A = ℕ} s 1 0) named in
    omega (arith, more, same, is, later)

pub overflow_add-count : goal.overflow_add-count
overflow_add-count c =
    let is : c.loop-page.count ≡ length (pages_named (take c.loop-page.page-index c.args.table.now)) = c.loop-page.invariant in
    let few : length c.args.table.now ≤ 65536 = c.requires in
    omega (arith, is, few, c.loop-page-test.true, named_few c.args.table.now c.loop-page.page-index (omega (arith, c.loop-page-test.true)))

pub loop-page-preserved : goal.loop-page-preserved
loop-page-preserved c =
    elim c.if-page.branch [
      | then-page w ↦ counted c.args.table.now c.loop-page.page-index c.loop-page.count c.if-page.count true (named_apart c.args.table.now c.loop-page.page-index w.if-page.true) c.loop-page-test.true c.loop-page.invariant w.count-is
      | else-page w ↦ counted c.args.table.now c.loop-page.page-index c.loop-page.count c.if-page.count false (not_named c.args.table.now c.loop-page.page-index w.if-page.false) c.loop-page-test.true c.loop-page.invariant (w.count-is ∙ omega arith)
    ]
