use Rattle.std.proofs.Common.{◌≡◌, ◌∙◌, ap, map, subst}
use Rattle.std.specs.Prelude.{string_bytes, IfOk, IfSome, IfNone}
use Rattle.grid_words.specs.Commands.{MeanNothing}
use Rattle.grid_words.specs.Given.{behind_first, coming}
use Rattle.grid_words.proofs.reading.asked_command.Goals as goal

pub returns-in-Some-clause-nothing : goal.returns-in-Some-clause-nothing
returns-in-Some-clause-nothing c =
    let are = subst (λ o. IfSome o (λ words. map string_bytes words.items ≡ behind_first (coming c.args.arguments))) c.in-Some.is c.in_ok-words.ensures.words in
    subst (λ ws. IfOk c.meant_command.result (λ read. IfNone read (MeanNothing ws))) (ap (map string_bytes) c.as_slice.ensures.value ∙ are) c.meant_command.ensures.nothing
