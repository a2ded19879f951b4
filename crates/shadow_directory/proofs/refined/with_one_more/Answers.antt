use Rattle.std.proofs.Common.{arith}
use Rattle.directory_changes.proofs.Counted.{few-intervals}
use Rattle.shadow_directory.proofs.refined.with_one_more.Goals as goal

pub overflow_add-more : goal.overflow_add-more
overflow_add-more g c = omega (arith, few-intervals c.args.intervals.now c.args.attribute c.requires.lawful c.requires.attribute)
