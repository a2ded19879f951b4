use Rattle.std.proofs.Common.{◌≡◌, ◌∙◌, ap}
use Rattle.std.specs.Prelude.{codes}
use Rattle.std.proofs.lemmas.Result.{IfOk-weaker}
use Rattle.clap.specs.Words.{App, app_of}
use Rattle.clap.specs.Simple.{app_of_fields}
use Rattle.std.specs.Prelude.{true}
use Rattle.grid_words.specs.Program.{bare_app, with_verb}
use Rattle.grid_words.proofs.program.program.Goals as goal

pub returns : goal.returns
returns c =
    let bare : app_of c.disable_help_subcommand-bare.result ≡ bare_app = (let a = c.no_binary_name.ensures in let b = c.disable_help_flag.ensures in let d = c.disable_help_subcommand-bare.ensures in
    ap app_of_fields d ∙ ap (λ f. app_of_fields (record f { disable_help_subcommand = true })) b ∙ ap (λ f. app_of_fields (record f { disable_help_flag = true; disable_help_subcommand = true })) a
    ∙ ap (λ (o : App). record o { top = record o.top { no_binary_name = true; disable_help_flag = true; disable_help_subcommand = true } }) c.new.ensures.app) in
    let dumped : app_of c.in_ok-dumped.dumped ≡ with_verb (with_verb (with_verb (with_verb bare_app (codes "make")) (codes "run")) (codes "check")) (codes "dump") =
    c.in_ok-dumped.ensures ∙ ap (λ a. with_verb a (codes "dump")) (c.in_ok-checked.ensures ∙ ap (λ a. with_verb a (codes "check")) (c.in_ok-run.ensures ∙ ap (λ a. with_verb a (codes "run")) (c.in_ok-made.ensures ∙ ap (λ a. with_verb a (codes "make")) bare))) in
    IfOk-weaker c.with_verb-5.result _ _ (λ r h. h ∙ ap (λ a. with_verb a (codes "gen")) dumped) c.with_verb-5.ensures
