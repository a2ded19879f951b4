use Rattle.std.proofs.Common.{◌∙◌, ap, sym, subst, map, inl, inr}
use Rattle.std.specs.Prelude.{string_bytes, IfOk, IfSome, IfNone}
use Rattle.std.proofs.lemmas.Bool.{true≢false}
use denote.Enum.Bare.{sameb}
use Rattle.clap.specs.contracts.error.kind.ErrorKind.{the_type}
use Rattle.clap.specs.declared.error.kind.ErrorKind.TheVariants.{OutOfMemory}
use Rattle.clap.specs.Words.{is_simple, fault_of, is_simple_and_free, subcommand_of, HasKind}
use Rattle.grid_words.specs.Commands.{Mean, MeanNothing}
use Rattle.grid_words.proofs.Finding.{meant_passes, program_simple, no_split, split_is}
use Rattle.grid_words.proofs.Splitting.{grid_simple}
use Rattle.grid_words.proofs.reading.meant_command.Goals as goal

pub returns-in-Err-2-clause-nothing : goal.returns-in-Err-2-clause-nothing
returns-in-Err-2-clause-nothing c = λ command mean.
    let words = map string_bytes c.args.words.now in
    let kinds = c.in-Err.ensures.kinds (ap is_simple_and_free c.in_ok-program.ensures ∙ grid_simple) in
    let passes = ap (λ a. fault_of a words) c.in_ok-program.ensures ∙ meant_passes words command mean in
    elim (subst (λ ks. HasKind ks c.in-Err.error) passes kinds) [
      | inl memory ↦ absurd (true≢false (sym (c.eq.ensures ∙ ap (λ k. sameb the_type k OutOfMemory) (c.kind.ensures ∙ memory)) ∙ c.if-eq.false))
      | inr among ↦ among
    ]

pub returns-in_default-clause-nothing : goal.returns-in_default-clause-nothing
returns-in_default-clause-nothing c =
    let words = map string_bytes c.args.words.now in
    let app = c.in_ok-program.ensures in
    let passes = sym (ap (λ a. fault_of a words) app) ∙ c.in-Ok.ensures.kinds (ap is_simple_and_free app ∙ grid_simple) in
    let rows = (c.in-Ok.ensures.matches (ap is_simple app ∙ program_simple)).1 ∙ ap (λ a. subcommand_of a words) app in
    no_split words c.in-Ok.matches c.requires.plain passes rows c.in_default.ensures.rows

pub returns-clause-meant : goal.returns-clause-meant
returns-clause-meant c =
    let words = map string_bytes c.args.words.now in
    let app = c.in_ok-program.ensures in
    let passes = sym (ap (λ a. fault_of a words) app) ∙ c.in-Ok.ensures.kinds (ap is_simple_and_free app ∙ grid_simple) in
    let rows = (c.in-Ok.ensures.matches (ap is_simple app ∙ program_simple)).1 ∙ ap (λ a. subcommand_of a words) app in
    let behind = split_is words c.in-Ok.matches c.in-Some.verb.now _ c.requires.plain passes rows c.in-Some.ensures.name c.in-Some.ensures.rows in
    subst (λ ws. IfOk c.command_in.result (λ read. IfSome read (λ r. Mean ws r))) (sym behind.words_are)
    (c.command_in.ensures.meant behind.rest behind.found_is behind.plain)

pub returns-clause-nothing : goal.returns-clause-nothing
returns-clause-nothing c =
    let words = map string_bytes c.args.words.now in
    let app = c.in_ok-program.ensures in
    let passes = sym (ap (λ a. fault_of a words) app) ∙ c.in-Ok.ensures.kinds (ap is_simple_and_free app ∙ grid_simple) in
    let rows = (c.in-Ok.ensures.matches (ap is_simple app ∙ program_simple)).1 ∙ ap (λ a. subcommand_of a words) app in
    let behind = split_is words c.in-Ok.matches c.in-Some.verb.now _ c.requires.plain passes rows c.in-Some.ensures.name c.in-Some.ensures.rows in
    subst (λ ws. IfOk c.command_in.result (λ read. IfNone read (MeanNothing ws))) (sym behind.words_are)
    (c.command_in.ensures.nothing behind.rest behind.found_is)
