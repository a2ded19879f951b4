use Rattle.std.proofs.Common.{◌∙◌, ◌++◌, ap, map, sym, drop-cons}
use Rattle.std.specs.Prelude.{decimal}
use Rattle.clap.specs.Walk.{texts}
use Rattle.grid_words.proofs.Decimals.{none_but_prints}
use Rattle.grid_words.proofs.numbers.numbers_of.Goals as goal

pub returns-in_default-clause-none : goal.returns-in_default-clause-none
returns-in_default-clause-none c = λ numbers few small e.
    let here = drop-cons c.args.words.now c.loop-word.word-index _ c.loop-word-test.true in
    let reached = ap (λ ws. map decimal c.loop-word.numbers.items ++ texts ws) here in
    none_but_prints c.loop-word.numbers.items _ _ numbers small c.in_default.ensures.none (sym reached ∙ sym c.loop-word.invariant.printed ∙ e)
