use Rattle.std.proofs.Common.{◌≡◌, ◌∙◌, sym, subst}
use Rattle.grid_script.specs.Taken.{IsScript, IsFault}
use Rattle.grid_script.specs.declared.script.Script.{Script}
use Rattle.grid_script.specs.declared.script.ScriptFault.TheVariants as fault
use Rattle.grid_shell.proofs.Errors.{error_of}
use Rattle.grid_shell.proofs.Fronts.{script-take, fault-take, lost-most}
use Rattle.grid_shell.proofs.script.read_lines.Goals as goal

pub returns-in-Ok-read_script-clause-read : goal.returns-in-Ok-read_script-clause-read
returns-in-Ok-read_script-clause-read g c = record {
  script = λ ts. script-take (g.S.Source.left c.args.input.now) c.in-Ok-read_script.script (subst (λ bytes. IsScript bytes c.in-Ok-read_script.script) (c.as_slice.ensures.value ∙ c.in-Ok.ensures.bytes ts) c.in-Ok-read_script.ensures.read);
  steady = sym c.faults.ensures ∙ c.if-faults-before.false ∙ c.faults-before.ensures;
  lost = λ ts. lost-most _ _ (c.in-Ok.ensures.lost ts);
}

pub returns-in-Err-Line-clause-unread : goal.returns-in-Err-Line-clause-unread
returns-in-Err-Line-clause-unread g c = (
  λ ts. fault-take g.row.K (g.S.Source.left c.args.input.now) c.in-Err-Line.line
      (subst (λ bytes. IsFault g.row.K bytes c.in-Err-Line.line) (c.as_slice.ensures.value ∙ c.in-Ok.ensures.bytes ts) (c.in-Err-Line.ensures.fault c.in-Err-Line.line (error_of {T = Script g.row.K} c.in-Err-Line.field-0 (fault.Line c.in-Err-Line.line) c.in-Err-Line.field-0-is))),
  sym c.faults.ensures ∙ c.if-faults-before.false ∙ c.faults-before.ensures,
)
