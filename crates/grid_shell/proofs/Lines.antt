-- The text of a run, reply by reply.
use Rattle.std.proofs.Common.{◌≡◌, ◌<◌, ◌+◌, ℕ, List, [], ◌∷◌, ◌++◌, map, Ok, length, take, get_or, drop, refl, sym, ap, ◌∙◌, append_assoc, codes, subst, arith}
use Rattle.std.specs.List.{flat_map}
use Rattle.std.proofs.lemmas.List.{append-nil, flat_map_more, take_more, take_all, take-append-drop}
use Rattle.std.proofs.lemmas.Grind.{flat_map-append}
use Rattle.disk_trait.specs.declared.sink.Sink.{Ghosts}
use Rattle.disk_trait.specs.Streams.{AddsFront}
use Rattle.grid_types.specs.declared.request.Reply.{Reply}
use Rattle.grid_types.specs.declared.update.Record.{Record}
use Rattle.grid_model.specs.Text.{numbered, ended, reply_lines, row_text, front_line, group_lines, text_lines, text}
use Rattle.client_sessions.specs.Runs.{group_of_one}
use Rattle.grid_shell.specs.Printing.{Passes, session_text}
use Rattle.grid_shell.proofs.Adding.{adds_longer, passes_more}

-- the text of a reply: its lines, each with its end
abbrev pub reply_text : {K : ℕ} → Reply K → List ℕ
reply_text r = flat_map ended (reply_lines r)

-- the line that names the client, where it was told anything
abbrev pub title : {K : ℕ} → List (Reply K) → List ℕ
title [] = []
title (r ∷ rs) = ended (numbered (codes "client ") 1)

-- the title and the first replies
abbrev pub text_to : {K : ℕ} → List (Reply K) → ℕ → List ℕ
text_to rs i = title rs ++ flat_map reply_text (take i rs)

text_more : {K : ℕ} (rs : List (Reply K)) (i : ℕ) (d : Reply K) → i < length rs → text_to rs (i + 1) ≡ text_to rs i ++ reply_text (get_or rs i d)
text_more rs i d lt = ap (λ qs. title rs ++ flat_map reply_text qs) (take_more rs i d lt) ∙ sym (flat_map_more reply_text (title rs) (take i rs) (get_or rs i d))

-- the lines of all replies, each with its end
flat_map-ended : {K : ℕ} (rs : List (Reply K)) → flat_map ended (flat_map reply_lines rs) ≡ flat_map reply_text rs
flat_map-ended [] = refl
flat_map-ended (r ∷ rs) = flat_map-append ended (reply_lines r) (flat_map reply_lines rs) ∙ ap (λ (t : List ℕ). reply_text r ++ t) (flat_map-ended rs)

flat_map-group : {K : ℕ} (rs : List (Reply K)) → flat_map ended (flat_map group_lines (group_of_one 1 rs)) ≡ title rs ++ flat_map reply_text rs
flat_map-group [] = refl
flat_map-group (r ∷ rs) =
    ap (flat_map ended) (append-nil (numbered (codes "client ") 1 ∷ flat_map reply_lines (r ∷ rs)))
    ∙ ap (λ (t : List ℕ). ended (numbered (codes "client ") 1) ++ t) (flat_map-ended (r ∷ rs))

pub all_text : {K : ℕ} (rs : List (Reply K)) (n front : ℕ) → length rs ≡ n → text_to rs n ++ front_line front ≡ session_text rs front
unfolding text text_lines front_line
all_text rs n front e =
    ap (λ qs. (title rs ++ flat_map reply_text qs) ++ ended (numbered (codes "front ") front)) (take_all n rs (omega (arith, e)))
    ∙ (λ i. sym (flat_map-group rs) i ++ sym (append-nil (ended (numbered (codes "front ") front))) i)
    ∙ sym (flat_map-append ended (flat_map group_lines (group_of_one 1 rs)) (numbered (codes "front ") front ∷ []))

-- the line of a row, with its end
abbrev pub row_line : {K : ℕ} → Record K → List ℕ
row_line r = ended (row_text r)

-- a first line, and the lines of the first rows
abbrev pub rows_to : {K : ℕ} → List ℕ → List (Record K) → ℕ → List ℕ
rows_to first rows i = ended first ++ flat_map row_line (take i rows)

pub rows_none : {K : ℕ} (first : List ℕ) (rows : List (Record K)) → rows_to first rows 0 ≡ ended first
rows_none first rows = append-nil (ended first)

pub rows_more : {K : ℕ} (first : List ℕ) (rows : List (Record K)) (i : ℕ) (d : Record K) → i < length rows → rows_to first rows (i + 1) ≡ rows_to first rows i ++ row_line (get_or rows i d)
rows_more first rows i d lt = ap (λ qs. ended first ++ flat_map row_line qs) (take_more rows i d lt) ∙ sym (flat_map_more row_line (ended first) (take i rows) (get_or rows i d))

each_row : {K : ℕ} (rows : List (Record K)) → flat_map ended (map row_text rows) ≡ flat_map row_line rows
each_row [] = refl
each_row (r ∷ rows) = ap (λ (t : List ℕ). row_line r ++ t) (each_row rows)

module _ {K : ℕ} (r : Reply K) (first : List ℕ) (rows : List (Record K)) (lines : reply_lines r ≡ first ∷ map row_text rows) where
  rows_whole : rows_to first rows (length rows) ≡ reply_text r
  rows_whole = ap (λ qs. ended first ++ flat_map row_line qs) (take_all (length rows) rows (omega arith)) ∙ ap (λ (t : List ℕ). ended first ++ t) (sym (each_row rows)) ∙ ap (flat_map ended) (sym lines)

  pub rows_all : (n : ℕ) → length rows ≡ n → rows_to first rows n ≡ reply_text r
  rows_all n e = ap (rows_to first rows) (sym e) ∙ rows_whole

  -- the first lines, and the rest of them
  pub rows_rest : (had : List ℕ) (i : ℕ) → (had ++ rows_to first rows i) ++ flat_map row_line (drop i rows) ≡ had ++ reply_text r
  rows_rest had i =
      append_assoc had (rows_to first rows i) (flat_map row_line (drop i rows))
      ∙ ap (λ (t : List ℕ). had ++ t) (
      append_assoc (ended first) (flat_map row_line (take i rows)) (flat_map row_line (drop i rows))
      ∙ ap (λ (xs : List ℕ). ended first ++ xs) (sym (flat_map-append row_line (take i rows) (drop i rows)) ∙ ap (flat_map row_line) (take-append-drop i rows ∙ sym (take_all (length rows) rows (omega arith))))
      ∙ rows_whole)

-- the first replies have passed into sink and buffer, and the next one stands behind them
pub passes_reply : {K : ℕ} {O E : Type 0} {g : Ghosts O} (rs : List (Reply K)) (i : ℕ) (r : Reply K) → i < length rs → r ≡ get_or rs i r → (buffered : List ℕ) (old now : O) → Passes {E = E} g (text_to rs i) buffered old now (Ok tt) → Passes {E = E} g (text_to rs (i + 1)) (buffered ++ reply_text r) old now (Ok tt)
passes_reply rs i r lt is buffered old now p =
    passes_more (text_to rs i) buffered (buffered ++ reply_text r) (reply_text r) (text_to rs (i + 1)) old now p refl
    (text_more rs i r lt ∙ ap (λ q. text_to rs i ++ reply_text q) (sym is))

-- a front of the first replies is one of the whole text
pub adds_text : {K : ℕ} (rs : List (Reply K)) (i front : ℕ) (old new : List ℕ) → AddsFront old new (text_to rs i) → AddsFront old new (session_text rs front)
adds_text rs i front old new a =
    let rest = flat_map reply_text (drop i rs) in
    let lines : text_to rs i ++ rest ≡ text_to rs (length rs) =
    append_assoc (title rs) (flat_map reply_text (take i rs)) rest
    ∙ ap (λ (xs : List ℕ). title rs ++ xs) (sym (flat_map-append reply_text (take i rs) (drop i rs)) ∙ ap (flat_map reply_text) (take-append-drop i rs ∙ sym (take_all (length rs) rs (omega arith)))) in
    subst (λ (t : List ℕ). AddsFront old new t) (ap (λ (xs : List ℕ). xs ++ front_line front) lines ∙ all_text rs (length rs) front refl)
    (adds_longer old new (text_to rs i ++ rest) (front_line front) (adds_longer old new (text_to rs i) rest a))
