use Rattle.std.proofs.Common.{◌∙◌, sym, ap, max, arith}
use Rattle.grid_shell.specs.Statuses.{status_of_reply}
use Rattle.grid_shell.proofs.StatusLaws.{greatest_status-none, greatest_status-more, one_of_lines}
use Rattle.grid_shell.proofs.ending.Ending.worst.Goals as goal

pub loop-reply-init : goal.loop-reply-init
loop-reply-init g c = record { greatest = sym (greatest_status-none g.row.K); line = tt }

pub loop-reply-preserved : goal.loop-reply-preserved
loop-reply-preserved g c = record {
  greatest =
      c.or_worse-worst.ensures.status
      ∙ (λ i. max (c.loop-reply.invariant.greatest i) ((c.of_line.ensures.status ∙ ap status_of_reply c.reply-item.is) i))
      ∙ sym (greatest_status-more c.args.replies.now c.loop-reply.reply-index c.reply-item.result (omega arith));
  line = one_of_lines _ _ _ c.loop-reply.invariant.line c.of_line.ensures.line c.or_worse-worst.ensures.one;
}
