use Rattle.std.proofs.Common.{◌≡◌, ◌∙◌, inl, inr, refl, sym, ap, subst}
use Rattle.disk_trait.proofs.Calls.{causes_on}
use Rattle.grid_shell.specs.Endings.{unopened}
use Rattle.grid_shell.specs.Printing.{PrintsSession}
use Rattle.grid_shell.proofs.work.answer_lines.Goals as goal

pub returns-in-Ok : goal.returns-in-Ok
returns-in-Ok g c =
    let s = c.in-Ok.session in
    rw (c.into_inner.ensures) (inr (record {
      replies = s.replies.items;
      front = s.front;
      records = s.records;
      answered = record { kinds = c.in-Ok.ensures.kinds; faults = c.in-Ok.ensures.faults; session = c.in-Ok.ensures.session };
      prints = subst (λ replies. PrintsSession g.O.Sink replies s.front c.args.out.now c.print_session-ending.new.out c.print_session-ending.result) c.as_slice.ensures.value c.print_session-ending.ensures;
    }))

pub returns-in-Err : goal.returns-in-Err
returns-in-Err g c =
    let e = c.in-Err.ensures in
    rw (c.into_inner-in-Err.ensures) (inl (record {
      refusal = c.in-Err.field-0.refusal;
      ends = c.unopened.ensures;
      unopened = record { why = e.refused; sound = e.standing; moments = e.moments; untouched = e.untouched; memory = e.memory; causes = causes_on e.causes };
      silent = refl;
    }))
