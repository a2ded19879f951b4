use Rattle.std.proofs.Common.{◌∙◌, List, ap, subst, arith}
use Rattle.std.proofs.lemmas.List.{take_all}
use Rattle.grid_types.specs.declared.layout_change.LoggedUpdate.{LoggedUpdate}
use Rattle.grid_check.specs.Marks.{HaveMarks}
use Rattle.grid_check.proofs.Counted.{updates_of, updates_alike, batch_has}
use Rattle.grid_check.proofs.updates.keys_named.Goals as goal

pub loop-batch-preserved : goal.loop-batch-preserved
loop-batch-preserved g c =
    let e = c.in_ok-name_keys.ensures in
    record {
      named = batch_has {K = g.row.K} c.list-batch-items.result.now c.loop-batch.batch-index c.batch-item.result c.loop-batch-test.true c.batch-item.is c.loop-batch.marks c.name_keys.new.marks c.loop-batch.invariant.named e.keeps
          (subst (λ (us : List (LoggedUpdate g.row.K)). HaveMarks c.name_keys.new.marks us) c.as_slice.ensures.value e.named);
      unmarked = e.unmarked c.loop-batch.invariant.unmarked;
    }

pub returns-clause-named : goal.returns-clause-named
returns-clause-named g c =
    let items = c.list-batch-items.result.now in
    subst (λ (us : List (LoggedUpdate g.row.K)). HaveMarks c.loop-batch.marks us)
    (ap (updates_of {K = g.row.K}) (take_all c.loop-batch.batch-index items (omega (arith, c.loop-batch-test.false))) ∙ updates_alike items c.args.taken.now c.list-batch-items.ensures) c.loop-batch.invariant.named
