use Rattle.std.proofs.Common.{◌≡◌, ◌∙◌, ◌<◌, ℕ, false, length, eqb, sym, ap, arith}
use Rattle.std.proofs.lemmas.Bool.{eqb-true}
use Rattle.std.proofs.lemmas.Bool.Decides.{nat_tests}
use Rattle.std.proofs.lemmas.List.{nil_from_length}
use Rattle.grid_script.specs.Reading.{words_in}
use Rattle.grid_script.proofs.Pieces.{words-none, words-first}
use Rattle.grid_script.proofs.reader.pieces.next_word.Goals as goal

not_empty : (n : ℕ) → eqb n 0 ≡ false → 0 < n
not_empty n e = grind (arith, nat_tests)

pub returns-then-is_empty-clause-none : goal.returns-then-is_empty-clause-none
returns-then-is_empty-clause-none c =
    let rest = c.without_spaces-rest.result.now in
    sym c.without_spaces-rest.ensures.words ∙ ap words_in (nil_from_length rest (eqb-true (length rest) 0 (sym c.is_empty.ensures ∙ c.if-is_empty.true))) ∙ words-none

pub returns-clause-found : goal.returns-clause-found
returns-clause-found c =
    let rest = c.without_spaces-rest.result.now in
    let parts = c.first_piece.result in
    let some = not_empty (length rest) (sym c.is_empty.ensures ∙ c.if-is_empty.false) in
    sym c.without_spaces-rest.ensures.words ∙ words-first rest parts.0.now parts.1.now parts.2 some (c.without_spaces-rest.ensures.first some) c.first_piece.ensures.pieces c.first_piece.ensures.end
