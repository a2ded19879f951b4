-- The text of a key, printed number by number.
use Rattle.std.proofs.Common.{◌≡◌, ◌∙◌, ◌<◌, ◌+◌, ℕ, List, [], ◌∷◌, ◌++◌, length, take, get_or, ap, sym, refl, append_assoc, arith}
use Rattle.std.specs.Prelude.{decimal, codes}
use Rattle.std.proofs.lemmas.List.{take_more, length-take-le}
use Rattle.grid_model.specs.Text.{key_text}

-- what stands before a key's number
pub record IsBefore (a : ℕ) (w : List ℕ) : Type 0 where
  pub first : a ≡ 0 → w ≡ []
  pub later : 0 < a → w ≡ codes ","

one_more : (xs w : List ℕ) (m : ℕ) → IsBefore (length xs) w → key_text (xs ++ m ∷ []) ≡ key_text xs ++ (w ++ decimal m)
one_more [] w m b = ap (λ v. v ++ decimal m) (sym (b.first refl))
one_more (x ∷ []) w m b = ap (λ v. decimal x ++ (v ++ decimal m)) (sym (b.later (omega arith)))
one_more (x ∷ y ∷ xs) w m b =
    ap (λ t. decimal x ++ (44 ∷ t)) (one_more (y ∷ xs) w m (record { first = λ e. absurd (omega (arith, e)); later = λ l. b.later (omega arith) }))
    ∙ sym (append_assoc (decimal x) (44 ∷ key_text (y ∷ xs)) (w ++ decimal m))

-- one number more
pub key_step : (start out old at w : List ℕ) (a : ℕ) → a < length at → IsBefore a w → old ≡ start ++ key_text (take a at) → out ≡ old ++ (w ++ decimal (get_or at a 0)) → out ≡ start ++ key_text (take (a + 1) at)
key_step start out old at w a lt b was more =
    let count : length (take a at) ≡ a = length-take-le a at (omega (arith, lt)) in
    let step = one_more (take a at) w (get_or at a 0) (record { first = λ e. b.first (omega (arith, count, e)); later = λ l. b.later (omega (arith, count, l)) }) in
    more
    ∙ ap (λ t. t ++ (w ++ decimal (get_or at a 0))) was
    ∙ append_assoc start (key_text (take a at)) (w ++ decimal (get_or at a 0))
    ∙ ap (λ t. start ++ t) (sym step ∙ ap key_text (sym (take_more at a 0 lt)))
