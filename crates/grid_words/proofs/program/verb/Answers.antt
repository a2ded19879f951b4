use Rattle.std.proofs.Common.{rules, ◌≡◌, ◌∙◌, ℕ, max, ap, ap₂, Option, Some, None}
use Rattle.std.specs.Option.{IsSomeAnd}
use Rattle.std.proofs.lemmas.Result.{IfOk-weaker}
use Rattle.clap.specs.Words.{Rule, app_of, new_app, rule_of, with_rule}
use Rattle.clap.specs.declared.builder.range.ValueRange.{ValueRange}
use Rattle.grid_words.specs.declared.numbers.TheConstants.{MOST_NUMBERS}
use Rattle.grid_words.specs.Program.{file_rule, numbers_rule}
use Rattle.grid_words.proofs.program.verb.Goals as goal

abbrev range_from_to : ℕ → ℕ → ValueRange
range_from_to start end = record { start_inclusive = start; end_inclusive = max end start }

range_is : (range : Option ValueRange) (start end : ℕ) → IsSomeAnd range (λ r. r ≡ range_from_to start end) → start ≡ 1 → end ≡ MOST_NUMBERS
    → range ≡ Some (record { start_inclusive = 1; end_inclusive = MOST_NUMBERS })
range_is None start end is s e = absurd is
range_is (Some r) start end is s e = ap (λ x. Some x) (is ∙ ap₂ range_from_to s e)

pub returns-clause-app : goal.returns-clause-app
returns-clause-app c =
    let file_is : rule_of c.required-file.result ≡ file_rule = search rules in
    let range = range_is c.num_args-numbers.result.num_vals _ _ c.num_args-numbers.ensures.1 c.new-3.ensures.start c.new-3.ensures.end in
    let numbers_is : rule_of c.num_args-numbers.result ≡ numbers_rule =
    ap rule_of c.num_args-numbers.ensures.0 ∙ ap₂ (λ (r : Rule) o. record r { range = o }) c.new-2.ensures.rule range in
    let with_file : app_of c.in_ok-arg.field-0 ≡ with_rule (new_app c.args.name.now) file_rule =
    c.in_ok-arg.ensures.shape (search rules) ∙ ap₂ with_rule c.new-4.ensures.app file_is in
    IfOk-weaker c.arg-2.result _ _ (λ r h. h.shape (search rules) ∙ ap₂ with_rule with_file numbers_is) c.arg-2.ensures
