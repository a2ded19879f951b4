use Rattle.std.proofs.Common.{◌≡◌, ◌∙◌, ◌∷◌, ap, sym, subst}
use Rattle.std.specs.Prelude.{codes, string_bytes, IfSome, IfNone}
use Rattle.std.specs.List.{All}
use Rattle.std.proofs.lemmas.List.Elements.{All-head}
use Rattle.clap.specs.Words.{found_of, first_of}
use Rattle.clap.proofs.WalkLemmas.{first_value-rows}
use Rattle.grid_words.specs.declared.command.Command.{Command}
use Rattle.grid_words.specs.Commands.{IsPlain, Mean, Write, verb_of, file_of}
use Rattle.grid_words.proofs.Finding.{numbers_found, no_file, file_words, meant_by}
use Rattle.grid_words.proofs.Written.{written_few, rest_is, no_command}
use Rattle.grid_words.proofs.reading.command_in.Goals as goal

pub returns-in_default-clause-nothing : goal.returns-in_default-clause-nothing
returns-in_default-clause-nothing c = λ words is.
    no_file c.args.verb.now words (c.in_default.ensures ∙ first_value-rows (found_of c.args.found.now) (codes "file") ∙ ap (first_of (codes "file")) is)

pub returns-in_default-numbers_in-clause-nothing : goal.returns-in_default-numbers_in-clause-nothing
returns-in_default-numbers_in-clause-nothing c = λ words is command mean.
    let parts = file_words words c.in-Some.name.now (c.in-Some.ensures ∙ first_value-rows (found_of c.args.found.now) (codes "file") ∙ ap (first_of (codes "file")) is) in
    let here = subst (λ ws. Mean (c.args.verb.now ∷ ws) command) parts mean in
    let few = written_few here.numbers command here.written in
    c.in_default-numbers_in.ensures.none here.numbers few.few few.small (ap numbers_found is ∙ rest_is _ _ _ command here)

pub returns-clause-meant : goal.returns-clause-meant
returns-clause-meant c = λ words is all.
    let parts = file_words words c.in-Some.name.now (c.in-Some.ensures ∙ first_value-rows (found_of c.args.found.now) (codes "file") ∙ ap (first_of (codes "file")) is) in
    let print = sym (ap numbers_found is) ∙ c.in-Some-numbers_in.ensures.found in
    meant_by c.written_command.result c.args.verb.now c.in-Some.name.now words c.in-Some-numbers_in.numbers.items (parts ∙ ap (λ ws. c.in-Some.name.now ∷ ws) print)
    (All-head IsPlain _ _ (subst (All IsPlain) parts all))
    (subst (λ name. IfSome c.written_command.result (λ r. (verb_of r ≡ c.args.verb.now) × (file_of r ≡ name) × Write c.in-Some-numbers_in.numbers.items r)) c.in_ok-file.ensures.ok
    (subst (λ ns. IfSome c.written_command.result (λ r. (verb_of r ≡ c.args.verb.now) × (file_of r ≡ string_bytes c.in_ok-file.file) × Write ns r)) c.as_slice.ensures.value c.written_command.ensures.found))

pub returns-clause-nothing : goal.returns-clause-nothing
returns-clause-nothing c = λ words is.
    let parts = file_words words c.in-Some.name.now (c.in-Some.ensures ∙ first_value-rows (found_of c.args.found.now) (codes "file") ∙ ap (first_of (codes "file")) is) in
    let print = sym (ap numbers_found is) ∙ c.in-Some-numbers_in.ensures.found in
    no_command (c.args.verb.now ∷ words) c.args.verb.now c.in-Some.name.now _ c.in-Some-numbers_in.numbers.items c.written_command.result
    (ap (λ ws. c.args.verb.now ∷ ws) parts) print c.in-Some-numbers_in.ensures.small
    (subst (λ ns. IfNone c.written_command.result ((command : Command) → verb_of command ≡ c.args.verb.now → Write ns command → ⊥)) c.as_slice.ensures.value c.written_command.ensures.none)
