use Rattle.std.proofs.Common.{◌∙◌, ◌+◌, List, sym, subst, arith}
use Rattle.grid_types.specs.declared.owner.Owner.TheVariants.{Bucket}
use Rattle.page_states.specs.declared.page_state.PageState.{PageState}
use Rattle.file_state.proofs.Beginning.{begin_first, begin_one, begin_none, named_apart, not_named, HasBegun}
use Rattle.file_state.proofs.opening.begin_buckets.Goals as goal
use Rattle.file_state.proofs.opening.begin_buckets.Goals.{then-page, else-page}

pub loop-n-init : goal.loop-n-init
loop-n-init c = begin_first Bucket c.args.at c.args.table.now c.args.states.now c.requires.free

pub loop-n-preserved : goal.loop-n-preserved
loop-n-preserved c =
    elim c.if-page.branch [
      | then-page w ↦
          begin_one Bucket c.args.at c.args.table.now c.args.states.now c.loop-n.states c.loop-n.n c.loop-n.invariant c.if-page.states
          (named_apart c.args.table.now c.loop-n.n w.if-page.true) c.loop-n-test.true c.requires.free.distinct (w.states-is ∙ w.begin.ensures)
      | else-page w ↦ subst (λ (s : List PageState). HasBegun Bucket c.args.at c.args.table.now c.args.states.now s (c.loop-n.n + 1)) (sym w.states-is)
          (begin_none Bucket c.args.at c.args.table.now c.args.states.now c.loop-n.states c.loop-n.n c.loop-n.invariant (not_named c.args.table.now c.loop-n.n w.if-page.false))
    ]

pub begin-requires-clause-free : goal.begin-requires-clause-free
begin-requires-clause-free c = c.loop-n.invariant.free c.loop-n.n (omega arith) c.loop-n-test.true (named_apart c.args.table.now c.loop-n.n c.if-page.true)

pub overflow_cast-n : goal.overflow_cast-n
overflow_cast-n c = omega (arith, c.requires.few, c.loop-n-test.true)
