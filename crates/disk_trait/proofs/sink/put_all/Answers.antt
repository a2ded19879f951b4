use Rattle.std.proofs.Common.{◌∙◌, arith}
use Rattle.disk_trait.proofs.Pieces.{received_more, piece_fits}
use Rattle.disk_trait.proofs.sink.put_all.Goals as goal

pub loop-at-preserved : goal.loop-at-preserved
loop-at-preserved g c = record {
  within = piece_fits c.args.bytes.now c.loop-at.at c.in_ok-at.field-0 c.loop-at.invariant.within c.in_ok-at.ensures.bound;
  later = omega (arith, c.in_ok-at.ensures.cause.later, c.loop-at.invariant.later);
  tells = c.in_ok-at.ensures.tells ∙ c.loop-at.invariant.tells;
  front = λ h. received_more _ _ _ c.args.bytes.now c.loop-at.at c.in_ok-at.field-0 (c.loop-at.invariant.front h) (c.in_ok-at.ensures.added (c.loop-at.invariant.tells ∙ h));
}
