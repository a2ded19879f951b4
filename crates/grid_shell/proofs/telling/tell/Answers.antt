use Rattle.std.proofs.Common.{◌≡◌, ◌++◌, ℕ, codes, sym, subst}
use Rattle.std.specs.Prelude.{OnOk}
use Rattle.grid_shell.specs.declared.ending.Ending.{Ending}
use Rattle.grid_shell.specs.Endings.{numbered_line, error_text}
use Rattle.grid_shell.proofs.telling.tell.Goals as goal

pub returns-in-OtherArity-clause-told : goal.returns-in-OtherArity-clause-told
returns-in-OtherArity-clause-told g c = λ h.
    let err = g.E.Sink.received in
    let told = c.tell_number-in-OtherArity in
    subst (λ (e : Ending). OnOk told.result (err told.new.err ≡ err c.args.err.now ++ error_text e)) (sym c.in-OtherArity.is)
    (subst (λ (n : ℕ). OnOk told.result (err told.new.err ≡ err c.args.err.now ++ numbered_line (codes "grid: arity ") n)) c.into-in-OtherArity.ensures (told.ensures.told h))

pub returns-in-Device-clause-told : goal.returns-in-Device-clause-told
returns-in-Device-clause-told g c = λ h.
    let err = g.E.Sink.received in
    subst (λ (e : Ending). OnOk c.put_all-in-Device.result (err c.put_all-in-Device.new.out ≡ err c.args.err.now ++ error_text e)) (sym c.in-Device.is) (c.put_all-in-Device.ensures.added h)
