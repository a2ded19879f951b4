use Rattle.std.proofs.Common.{◌≡◌, ◌∙◌, ◌<◌, false, length, codes, sym, ap, subst}
use Rattle.grid_model.specs.Script.{is_text}
use Rattle.grid_script.specs.Reading.{pieces_left}
use Rattle.grid_script.proofs.Pieces.{left-more, pieces-some}
use Rattle.grid_script.proofs.Sides.{side-long}
use Rattle.grid_script.proofs.reader.sides.parse_side.Goals as goal

pub returns-then-more : goal.returns-then-more
returns-then-more c =
    let word = c.args.word.now in
    let one = c.first_piece-more.result in
    let two = c.first_piece-more-2.result in
    let three = c.first_piece-more-3.result in
    let other : is_text word (codes "*") ≡ false = ap (λ w. is_text word w) (sym c.as_slice.ensures) ∙ sym c.eq.ensures ∙ c.if-eq.false in
    let rest = pieces_left 46 three.2 three.1.now in
    let more : 0 < length rest = subst (λ ps. 0 < length ps) (sym (left-more 46 three.2 three.1.now c.if-more.true)) (pieces-some 46 three.1.now) in
    sym (side-long word one.0.now two.0.now three.0.now (pieces_left 46 one.2 one.1.now) (pieces_left 46 two.2 two.1.now) rest other c.first_piece-more.ensures.pieces
    (left-more 46 one.2 one.1.now c.if-not-more.false ∙ c.first_piece-more-2.ensures.pieces)
    (left-more 46 two.2 two.1.now c.if-not-more-2.false ∙ c.first_piece-more-3.ensures.pieces)
    more)
