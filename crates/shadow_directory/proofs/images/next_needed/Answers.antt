use Rattle.shadow_directory.proofs.Imaged.{next-more}
use Rattle.shadow_directory.proofs.images.next_needed.Goals as goal

pub loop-k-preserved : goal.loop-k-preserved
loop-k-preserved c = next-more c.args.images.now c.loop-k.k c.args.from c.loop-k.next c.nearer-next.result c.nearer-next.ensures.none c.nearer-next.ensures.some c.loop-k.invariant
