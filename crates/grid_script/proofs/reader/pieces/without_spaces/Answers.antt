use Rattle.std.proofs.Common.{◌≡◌, ◌∙◌, ◌+◌, ◌<◌, ◌∷◌, ℕ, List, length, drop, get_or, sym, ap}
use Rattle.std.proofs.lemmas.List.{drop_more}
use Rattle.grid_script.specs.Reading.{words_in}
use Rattle.grid_script.proofs.Pieces.{words-space}
use Rattle.grid_script.proofs.reader.pieces.without_spaces.Goals as goal

space_passed : (text : List ℕ) (i : ℕ) → i < length text → get_or text i 0 ≡ 32 → words_in (drop (i + 1) text) ≡ words_in (drop i text)
space_passed text i lt e =
    sym (ap words_in (drop_more text i 0 lt ∙ ap (λ b. b ∷ drop (i + 1) text) e) ∙ words-space (drop (i + 1) text))

pub loop-i-preserved : goal.loop-i-preserved
loop-i-preserved c = space_passed c.args.text.now c.loop-i.i c.loop-i-test.true c.if-byte-ne32.false ∙ c.loop-i.invariant
