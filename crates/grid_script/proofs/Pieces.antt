-- The pieces of a text, and its words.
use Rattle.std.proofs.Common.{◌≡◌, ◌≢◌, ◌∙◌, ◌<◌, ℕ, eqb, Bool, true, false, cond, List, [], ◌∷◌, ◌++◌, length, filter, slice_index, refl, sym, ap, arith}
use Rattle.std.proofs.lemmas.Bool.{eq-eqb, ne_eqb}
use Rattle.grid_model.specs.Script.{pieces, onto_first, is_word, without_return}
use Rattle.grid_script.specs.Fields.{Without}
use Rattle.grid_script.specs.Reading.{pieces_left, words_in}
use Rattle.grid_script.proofs.Partings.{same_head, without-head, without-tail}

pieces-other_byte : (c b : ℕ) (bs : List ℕ) → (b ≡ c → ⊥) → pieces c (b ∷ bs) ≡ onto_first b (pieces c bs)
unfolding pieces
pieces-other_byte c b bs h = rw (ne_eqb b c h) refl

-- a piece with the byte behind it is the first piece
pub pieces-split : (c : ℕ) (piece rest : List ℕ) → Without c piece → pieces c (piece ++ c ∷ rest) ≡ piece ∷ pieces c rest
unfolding pieces
pieces-split c [] rest w = rw (eq-eqb c c refl) refl
pieces-split c (b ∷ piece) rest w = pieces-other_byte c b (piece ++ c ∷ rest) (without-head c b piece w) ∙ ap (onto_first b) (pieces-split c piece rest (without-tail c b piece w))

-- a text without the byte is one piece
pub pieces-whole : (c : ℕ) (piece : List ℕ) → Without c piece → pieces c piece ≡ piece ∷ []
unfolding pieces
pieces-whole c [] w = refl
pieces-whole c (b ∷ piece) w = pieces-other_byte c b piece (without-head c b piece w) ∙ ap (onto_first b) (pieces-whole c piece (without-tail c b piece w))

-- a space in front adds no word
pub words-space : (rest : List ℕ) → words_in (32 ∷ rest) ≡ words_in rest
unfolding pieces
words-space rest = refl

-- there is no word in nothing
pub words-none : words_in [] ≡ []
unfolding pieces
words-none = refl

-- the words of the pieces that are left are those of the rest
words-left : (more : Bool) (rest : List ℕ) → (more ≡ false → rest ≡ []) → filter is_word (pieces_left 32 more rest) ≡ words_in rest
words-left true rest h = refl
words-left false rest h = sym (ap words_in (h refl) ∙ words-none)

onto_first-is_word : (b : ℕ) (ps : List (List ℕ)) (word : List ℕ) (left : List (List ℕ)) → onto_first b ps ≡ word ∷ left → is_word word ≡ true
onto_first-is_word b [] word left e = ap is_word (sym (same_head (b ∷ []) word [] left e))
onto_first-is_word b (p ∷ ps) word left e = ap is_word (sym (same_head (b ∷ p) word ps left e))

first-is-word : (text word : List ℕ) (left : List (List ℕ)) → 0 < length text → slice_index text 0 ≢ 32 → pieces 32 text ≡ word ∷ left → is_word word ≡ true
first-is-word [] word left some h e = absurd (omega (arith, some))
first-is-word (b ∷ bs) word left some h e = onto_first-is_word b (pieces 32 bs) word left (sym (pieces-other_byte 32 b bs h) ∙ e)

filter-word : (word : List ℕ) (left : List (List ℕ)) → is_word word ≡ true → filter is_word (word ∷ left) ≡ word ∷ filter is_word left
filter-word word left e = rw e refl

-- a text that begins with no space begins with a word
pub words-first : (text word rest : List ℕ) (more : Bool) → 0 < length text → slice_index text 0 ≢ 32 → pieces 32 text ≡ word ∷ pieces_left 32 more rest → (more ≡ false → rest ≡ []) → words_in text ≡ word ∷ words_in rest
words-first text word rest more some h e end =
    ap (filter is_word) e ∙ filter-word word (pieces_left 32 more rest) (first-is-word text word (pieces_left 32 more rest) some h e) ∙ ap (λ ws. word ∷ ws) (words-left more rest end)

-- a line that ends in byte 13 is what stands in front of it
pub return-dropped : (front : List ℕ) → without_return (front ++ 13 ∷ []) ≡ front
return-dropped [] = refl
return-dropped (b ∷ []) = refl
return-dropped (b ∷ c ∷ front) = ap (λ l. b ∷ l) (return-dropped (c ∷ front))

-- a line that ends otherwise is the whole of it
pub return-kept : (line : List ℕ) → ((front : List ℕ) → line ≢ front ++ 13 ∷ []) → without_return line ≡ line
return-kept [] h = refl
return-kept (b ∷ []) h = rw (ne_eqb b 13 (λ e. h [] (ap (λ x. x ∷ []) e))) refl
return-kept (b ∷ c ∷ bs) h = ap (λ l. b ∷ l) (return-kept (c ∷ bs) (λ front e. h (b ∷ front) (ap (λ l. b ∷ l) e)))

pub left-more : (c : ℕ) (more : Bool) (rest : List ℕ) → more ≡ true → pieces_left c more rest ≡ pieces c rest
left-more c more rest e = ap (λ t. pieces_left c t rest) e

pub left-none : (c : ℕ) (more : Bool) (rest : List ℕ) → more ≡ false → pieces_left c more rest ≡ []
left-none c more rest e = ap (λ t. pieces_left c t rest) e

some-onto : (b : ℕ) (ps : List (List ℕ)) → 0 < length (onto_first b ps)
some-onto b [] = omega arith
some-onto b (p ∷ ps) = omega arith

-- a text has a piece
pub pieces-some : (c : ℕ) (text : List ℕ) → 0 < length (pieces c text)
unfolding pieces
pieces-some c [] = omega arith
pieces-some c (b ∷ bs) = cases (eqb b c)
  where
    cases : (t : Bool) → 0 < length (cond t ([] ∷ pieces c bs) (onto_first b (pieces c bs)))
    cases true = omega arith
    cases false = some-onto b (pieces c bs)
