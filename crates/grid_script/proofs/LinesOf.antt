-- The lines of a text.
use Rattle.std.proofs.Common.{◌≡◌, ◌≤◌, ◌-◌, ℕ, zero, suc, List, [], ◌∷◌, ◌++◌, length, take, drop, refl, sym, ap, ◌∙◌, arith}
use Rattle.std.proofs.lemmas.List.{drop_all}
use Rattle.std.proofs.lemmas.Bool.{ne_eqb}
use Rattle.grid_model.specs.Script.{lines_of, onto_first}
use Rattle.grid_script.specs.Fields.{Without}
use Rattle.grid_script.proofs.Partings.{without-head, without-tail}

-- a byte that ends no line goes lines_of-other_byte the first line
lines_of-other_byte : (b : ℕ) (bs : List ℕ) → (b ≡ 10 → ⊥) → lines_of (b ∷ bs) ≡ onto_first b (lines_of bs)
unfolding lines_of
lines_of-other_byte b bs differ = rw (ne_eqb b 10 differ) refl

pub lines_of-ended : (line rest : List ℕ) → Without 10 line → lines_of (line ++ 10 ∷ rest) ≡ line ∷ lines_of rest
unfolding lines_of
lines_of-ended [] rest w = refl
lines_of-ended (b ∷ line) rest w = lines_of-other_byte b (line ++ 10 ∷ rest) (without-head 10 b line w) ∙ ap (onto_first b) (lines_of-ended line rest (without-tail 10 b line w))

pub lines_of-last : (b : ℕ) (line : List ℕ) → Without 10 (b ∷ line) → lines_of (b ∷ line) ≡ (b ∷ line) ∷ []
unfolding lines_of
lines_of-last b [] w = lines_of-other_byte b [] (without-head 10 b [] w)
lines_of-last b (c ∷ line) w = lines_of-other_byte b (c ∷ line) (without-head 10 b (c ∷ line) w) ∙ ap (onto_first b) (lines_of-last c line (without-tail 10 b (c ∷ line) w))

pub lines_of-unended : (line : List ℕ) → 1 ≤ length line → Without 10 line → lines_of line ≡ line ∷ []
lines_of-unended [] some w = absurd (omega (arith, some))
lines_of-unended (b ∷ line) some w = lines_of-last b line w

take-nothing : (n : ℕ) → take {A = ℕ} n [] ≡ []
take-nothing zero = refl
take-nothing (suc n) = refl

-- behind the end of a text stands no line
pub lines_of-end : (text : List ℕ) → [] ≡ lines_of (take (length text - length text) (drop (length text) text))
unfolding lines_of
lines_of-end text = ap lines_of (sym (ap (take (length text - length text)) (drop_all (length text) text (omega arith)) ∙ take-nothing (length text - length text)))
