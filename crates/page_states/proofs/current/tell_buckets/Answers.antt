use Rattle.std.proofs.Common.{arith, ◌∙◌}
use Rattle.std.proofs.lemmas.List.{length-set}
use Rattle.grid_types.specs.declared.owner.Owner.TheVariants.{Bucket}
use Rattle.page_states.proofs.Told.{tell_more}
use Rattle.page_states.proofs.current.tell_buckets.Goals as goal

pub loop-n-preserved : goal.loop-n-preserved
loop-n-preserved c = record {
  told = tell_more Bucket c.args.nowhere c.args.table.now.states.items c.loop-n.out c.loop-n.n c.page_or-page.result (omega (arith, c.loop-n.invariant.count, c.loop-n-test.true)) c.loop-n.invariant.told c.page_or-page.ensures.page c.page_or-page.ensures.other;
  count = length-set c.loop-n.out c.loop-n.n c.page_or-page.result ∙ c.loop-n.invariant.count;
}
