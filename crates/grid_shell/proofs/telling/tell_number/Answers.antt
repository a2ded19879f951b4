use Rattle.std.proofs.Common.{◌≡◌, ◌∙◌, codes}
use Rattle.std.specs.Prelude.{decimal}
use Rattle.std.proofs.lemmas.Result.{on_ok_weaker}
use Rattle.grid_shell.proofs.Pieces.{append_three}
use Rattle.grid_shell.proofs.telling.tell_number.Goals as goal

pub returns-clause-told : goal.returns-clause-told
returns-clause-told g c = λ h.
    let number : c.as_bytes.result.now ≡ decimal c.args.number = c.as_bytes.ensures.value ∙ c.format.ensures.text in
    let first = c.in_ok-put_all.ensures.added h in
    let second = c.in_ok-put_all-2.ensures.added (c.in_ok-put_all.ensures.tells ∙ h) in
    on_ok_weaker c.put_all-3.result
    (λ third. append_three (g.E.Sink.received c.args.err.now) (g.E.Sink.received c.put_all.new.out) (g.E.Sink.received c.put_all-2.new.out) _ c.args.words.now (decimal c.args.number) (codes "\n") first (rw number at second) third)
    (c.put_all-3.ensures.added (c.in_ok-put_all-2.ensures.tells ∙ c.in_ok-put_all.ensures.tells ∙ h))
