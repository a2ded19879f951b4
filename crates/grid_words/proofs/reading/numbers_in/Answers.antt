use Rattle.std.proofs.Common.{◌≡◌, ◌∙◌, ◌≤◌, ◌<◌, ◌^◌, ℕ, List, [], map, length, ap, sym, subst, unwrap_or}
use Rattle.std.specs.Prelude.{codes, decimal, IfSome, IfNone}
use Rattle.std.specs.List.{All}
use Rattle.clap.specs.Words.{found_of}
use Rattle.clap.proofs.WalkLemmas.{raw_values-rows}
use Rattle.grid_words.specs.declared.numbers.TheConstants.{MOST_NUMBERS}
use Rattle.grid_words.proofs.reading.numbers_in.Goals as goal

pub returns-in-Some-clause-found : goal.returns-in-Some-clause-found
returns-in-Some-clause-found c =
    let are = ap (λ o. unwrap_or o []) (c.in-Some.ensures ∙ raw_values-rows (found_of c.args.found.now) (codes "numbers")) in
    subst (λ ws. IfSome c.numbers_of.result (λ numbers. ws ≡ map decimal numbers.items)) are c.numbers_of.ensures.found

pub returns-in-Some-clause-none : goal.returns-in-Some-clause-none
returns-in-Some-clause-none c =
    let are = ap (λ o. unwrap_or o []) (c.in-Some.ensures ∙ raw_values-rows (found_of c.args.found.now) (codes "numbers")) in
    subst (λ ws. IfNone c.numbers_of.result ((numbers : List ℕ) → length numbers ≤ MOST_NUMBERS → All (λ n. n < 2 ^ 32) numbers → ws ≡ map decimal numbers → ⊥)) are c.numbers_of.ensures.none

pub returns-in-None-clause-found : goal.returns-in-None-clause-found
returns-in-None-clause-found c =
    sym (ap (λ o. unwrap_or o []) (c.in-None.ensures ∙ raw_values-rows (found_of c.args.found.now) (codes "numbers"))) ∙ ap (map decimal) (sym c.new.ensures)
