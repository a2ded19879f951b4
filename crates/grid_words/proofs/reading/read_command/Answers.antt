use Rattle.std.proofs.Common.{sym, subst}
use Rattle.std.specs.Prelude.{IfNone}
use Rattle.grid_words.specs.Commands.{MeanNothing}
use Rattle.grid_words.specs.Given.{behind_first, coming, words_of}
use Rattle.grid_words.proofs.reading.read_command.Goals as goal

pub returns-in-Ok-None-clause-nothing : goal.returns-in-Ok-None-clause-nothing
returns-in-Ok-None-clause-nothing c = λ _.
    subst (λ given. MeanNothing (words_of given)) (sym c.in-Ok.is)
    (subst (λ o. IfNone o (MeanNothing (behind_first (coming c.in-Ok.arguments)))) c.in-Ok-None.field-0-is c.in-Ok-None.ensures.nothing)
