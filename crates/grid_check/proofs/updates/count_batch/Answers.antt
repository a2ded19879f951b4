use Rattle.grid_check.proofs.Counted.{counts_step}
use Rattle.grid_check.proofs.updates.count_batch.Goals as goal

pub loop-logged-preserved : goal.loop-logged-preserved
loop-logged-preserved g c =
    counts_step c.args.updates.now c.loop-logged.logged-index c.logged-item.result c.loop-logged-test.true c.logged-item.is c.args.marks.now c.loop-logged.marks c.count_update-left.new.marks c.args.records c.loop-logged.left c.count_update-left.result
    c.loop-logged.invariant c.count_update-left.ensures
