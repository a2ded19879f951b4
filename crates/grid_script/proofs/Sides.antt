-- The side that a word writes, from its pieces between dots.
use Rattle.std.proofs.Common.{◌≡◌, ◌∙◌, ◌<◌, ℕ, false, cond, List, [], ◌∷◌, length, codes, Some, None, refl, ap, arith}
use Rattle.grid_types.specs.declared.query.Side.TheVariants.{Any}
use Rattle.grid_model.specs.Script.{is_text, pieces, parsed_side, parsed_side_of_pieces}

-- a word that is no star is read by its pieces
side-pieces : (word : List ℕ) (ps : List (List ℕ)) → is_text word (codes "*") ≡ false → pieces 46 word ≡ ps → parsed_side word ≡ parsed_side_of_pieces ps
side-pieces word ps e p = ap (λ t. cond t (Some Any) (parsed_side_of_pieces (pieces 46 word))) e ∙ ap parsed_side_of_pieces p

parsed_side_of_pieces-long : (low middle high : List ℕ) (ps : List (List ℕ)) → 0 < length ps → parsed_side_of_pieces (low ∷ middle ∷ high ∷ ps) ≡ None
parsed_side_of_pieces-long low [] high [] h = absurd (omega (arith, h))
parsed_side_of_pieces-long low [] high (p ∷ ps) h = refl
parsed_side_of_pieces-long low (x ∷ middle) high [] h = refl
parsed_side_of_pieces-long low (x ∷ middle) high (p ∷ ps) h = refl

-- more than three pieces are no side
pub side-long : (word low middle high : List ℕ) (ps qs rs : List (List ℕ)) → is_text word (codes "*") ≡ false → pieces 46 word ≡ low ∷ ps → ps ≡ middle ∷ qs → qs ≡ high ∷ rs → 0 < length rs → parsed_side word ≡ None
side-long word low middle high ps qs rs e p q r some =
    side-pieces word (low ∷ ps) e p ∙ ap (λ l. parsed_side_of_pieces (low ∷ l)) (q ∙ ap (λ l. middle ∷ l) r) ∙ parsed_side_of_pieces-long low middle high rs some
