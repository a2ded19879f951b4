-- What is printed is the lines of the replies: none of them has a byte 10 inside.
use Rattle.std.proofs.Common.{◌≡◌, ◌<◌, ◌+◌, ◌/◌, ◌%◌, ◌==◌, ◌&&◌, ℕ, zero, suc, Bool, true, false, cond, not, List, [], ◌∷◌, ◌++◌, map, length, Option, Some, None, refl, ap, ◌∙◌, arith, append_assoc, slice_index, eqb-true, nat_lt, codes}
use Rattle.std.specs.Prelude.{decimal}
use Rattle.std.specs.List.{list_all, flat_map}
use Rattle.std.specs.Fmt.{digits, digits_onto, digit_glyph}
use Rattle.hex.specs.Hex.{encode_with, encode_lower, lower_digits}
use Rattle.grid_types.specs.declared.shape.Stat.{Stat}
use Rattle.grid_types.specs.declared.update.Record.{Record}
use Rattle.grid_types.specs.declared.refusal.Refusal.{Refusal}
use Rattle.grid_types.specs.declared.refusal.Refusal.TheVariants as refusal
use Rattle.grid_types.specs.declared.request.Reply.{Reply}
use Rattle.grid_types.specs.declared.request.Reply.TheVariants.{Put, Removed, Got, Listed, Counted, Stood, Rooted, Refused}
use Rattle.grid_types.proofs.Numbers.{first, second, both}
use Rattle.grid_model.specs.Script.{lines_of, onto_first}
use Rattle.grid_model.specs.Text.{key_text, hex_text, numbered, put_text, removed_text, got_text, row_text, stat_text, refusal_text, at_place, reply_lines, ended, Group, group_lines, text_lines, text}
use Rattle.grid_model.specs.ScriptLaws.{PrintsLines}
use Rattle.grid_model.proofs.Truths.{not-true}

-- a byte is no line's end
abbrev inner : ℕ → Bool
inner b = not (b == 10)

-- a line has no line's end inside
abbrev plain : List ℕ → Bool
plain line = list_all inner line

-- each line has none
abbrev all-plain : List (List ℕ) → Bool
all-plain lines = list_all plain lines

module _ {X : Type 0} (p : X → Bool) where
  all-append : (xs ys : List X) → list_all p xs ≡ true → list_all p ys ≡ true → list_all p (xs ++ ys) ≡ true
  all-append [] ys h g = g
  all-append (x ∷ xs) ys h g = both (p x) (list_all p (xs ++ ys)) (first (p x) (list_all p xs) h) (all-append xs ys (second (p x) (list_all p xs) h) g)

-- a line with its end is the first line of what it begins
line-first : (line rest : List ℕ) → plain line ≡ true → lines_of (line ++ (10 ∷ rest)) ≡ line ∷ lines_of rest
unfolding lines_of
line-first [] rest h = refl
line-first (b ∷ line) rest h =
    ap (λ t. cond t ([] ∷ lines_of (line ++ (10 ∷ rest))) (onto_first b (lines_of (line ++ (10 ∷ rest))))) (not-true (b == 10) (first (inner b) (plain line) h))
    ∙ ap (onto_first b) (line-first line rest (second (inner b) (plain line) h))

-- lines with their ends are these lines
lines-back : (lines : List (List ℕ)) → all-plain lines ≡ true → lines_of (flat_map ended lines) ≡ lines
unfolding lines_of
lines-back [] h = refl
lines-back (line ∷ lines) h =
    ap lines_of (append_assoc line (10 ∷ []) (flat_map ended lines))
    ∙ line-first line (flat_map ended lines) (first (plain line) (all-plain lines) h)
    ∙ ap (λ ls. line ∷ ls) (lines-back lines (second (plain line) (all-plain lines) h))

above-ten : (b : ℕ) → 10 < b → inner b ≡ true
above-ten b h = by (b == 10) refl
  where
    by : (t : Bool) → (b == 10) ≡ t → not t ≡ true
    by true e = absurd (omega (arith, h, eqb-true b 10 e))
    by false e = refl

glyph-plain : (d : ℕ) → inner (digit_glyph false d) ≡ true
glyph-plain d = by (nat_lt d 10)
  where
    by : (t : Bool) → inner (cond t (48 + d) (87 + d)) ≡ true
    by true = above-ten (48 + d) (omega arith)
    by false = above-ten (87 + d) (omega arith)

onto-plain : (k n : ℕ) (acc : List ℕ) → plain acc ≡ true → plain (digits_onto k 10 false n acc) ≡ true
onto-plain zero n acc h = h
onto-plain (suc k) n acc h = by (n / 10 == 0) (onto-plain k (n / 10) (digit_glyph false (n % 10) ∷ acc) (more h))
  where
    more : plain acc ≡ true → plain (digit_glyph false (n % 10) ∷ acc) ≡ true
    more g = both (inner (digit_glyph false (n % 10))) (plain acc) (glyph-plain (n % 10)) g

    by : (t : Bool) → plain (digits_onto k 10 false (n / 10) (digit_glyph false (n % 10) ∷ acc)) ≡ true → plain (cond t (digit_glyph false (n % 10) ∷ acc) (digits_onto k 10 false (n / 10) (digit_glyph false (n % 10) ∷ acc))) ≡ true
    by true rest = more h
    by false rest = rest

decimal-plain : (n : ℕ) → plain (decimal n) ≡ true
unfolding digits
decimal-plain n = onto-plain 64 n [] refl

numbered-plain : (word : List ℕ) (n : ℕ) → plain word ≡ true → plain (numbered word n) ≡ true
numbered-plain word n h = all-append inner word (decimal n) h (decimal-plain n)

at-plain : (xs : List ℕ) (i : ℕ) → plain xs ≡ true → inner (slice_index xs i) ≡ true
at-plain [] i h = refl
at-plain (x ∷ xs) zero h = first (inner x) (plain xs) h
at-plain (x ∷ xs) (suc i) h = at-plain xs i (second (inner x) (plain xs) h)

encode-plain : (bytes : List ℕ) → plain (encode_lower bytes) ≡ true
unfolding encode_with
encode-plain [] = refl
encode-plain (b ∷ bytes) = both (inner (slice_index lower_digits (b / 16))) (inner (slice_index lower_digits (b % 16)) && plain (encode_lower bytes)) (at-plain lower_digits (b / 16) refl)
    (both (inner (slice_index lower_digits (b % 16))) (plain (encode_lower bytes)) (at-plain lower_digits (b % 16) refl) (encode-plain bytes))

hex-plain : (bytes : List ℕ) → plain (hex_text bytes) ≡ true
hex-plain [] = refl
hex-plain (b ∷ bytes) = encode-plain (b ∷ bytes)

key-plain : (key : List ℕ) → plain (key_text key) ≡ true
key-plain [] = refl
key-plain (n ∷ []) = decimal-plain n
key-plain (n ∷ m ∷ ns) = all-append inner (decimal n) (44 ∷ key_text (m ∷ ns)) (decimal-plain n) (key-plain (m ∷ ns))

row-plain : {K : ℕ} (r : Record K) → plain (row_text r) ≡ true
row-plain r = all-append inner (key_text r.key.numbers) (32 ∷ hex_text r.value) (key-plain r.key.numbers) (hex-plain r.value)

rows-plain : {K : ℕ} (rs : List (Record K)) → all-plain (map row_text rs) ≡ true
rows-plain [] = refl
rows-plain (r ∷ rs) = both (plain (row_text r)) (all-plain (map row_text rs)) (row-plain r) (rows-plain rs)

put-plain : (o : Option (List ℕ)) → plain (put_text o) ≡ true
put-plain None = refl
put-plain (Some d) = all-append inner (codes " old ") (hex_text d) refl (hex-plain d)

removed-plain : (o : Option (List ℕ)) → plain (removed_text o) ≡ true
removed-plain None = refl
removed-plain (Some d) = all-append inner (codes " gone ") (hex_text d) refl (hex-plain d)

got-plain : (o : Option (List ℕ)) → plain (got_text o) ≡ true
got-plain None = refl
got-plain (Some d) = all-append inner (codes " = ") (hex_text d) refl (hex-plain d)

pair-plain : (a : List ℕ) (n : ℕ) (b : List ℕ) (m : ℕ) → plain a ≡ true → plain b ≡ true → plain (numbered a n ++ numbered b m) ≡ true
pair-plain a n b m h g = all-append inner (numbered a n) (numbered b m) (numbered-plain a n h) (numbered-plain b m g)

stat-plain : (s : Stat) → plain (stat_text s) ≡ true
stat-plain s = all-append inner (numbered (codes " stat records ") s.records) (numbered (codes " cells ") s.cells ++ (numbered (codes " buckets ") s.buckets ++ numbered (codes " free ") s.free)) (numbered-plain (codes " stat records ") s.records refl)
    (all-append inner (numbered (codes " cells ") s.cells) (numbered (codes " buckets ") s.buckets ++ numbered (codes " free ") s.free) (numbered-plain (codes " cells ") s.cells refl)
    (pair-plain (codes " buckets ") s.buckets (codes " free ") s.free refl refl))

refusal-plain : (r : Refusal) → plain (refusal_text r) ≡ true
refusal-plain refusal.NoMemory = refl
refusal-plain refusal.ReadFault = refl
refusal-plain refusal.WriteFault = refl
refusal-plain (refusal.Unsure faults before) = pair-plain (codes "unsure faults ") faults (codes " before ") before refl refl
refusal-plain (refusal.Stopped faults opened) = pair-plain (codes "stopped faults ") faults (codes " opened ") opened refl refl
refusal-plain (refusal.Full free need) = pair-plain (codes "full free ") free (codes " need ") need refl refl
refusal-plain (refusal.NoCut cells boundaries) = pair-plain (codes "nocut cells ") cells (codes " boundaries ") boundaries refl refl
refusal-plain (refusal.Damaged page) = numbered-plain (codes "damaged page ") page refl
refusal-plain refusal.Foreign = refl
refusal-plain (refusal.Version found) = refl
refusal-plain refusal.Seats = refl
refusal-plain refusal.BadShape = refl
refusal-plain refusal.BadQuery = refl
refusal-plain (refusal.Worn count) = numbered-plain (codes "worn ") count refl
refusal-plain (refusal.Arity found) = refl

at-place-plain : (at : ℕ) (told : List ℕ) → plain told ≡ true → plain (at_place at told) ≡ true
at-place-plain at told h = all-append inner (numbered (codes "@") at) told (numbered-plain (codes "@") at refl) h

one : (line : List ℕ) → plain line ≡ true → all-plain (line ∷ []) ≡ true
one line h = both (plain line) true h refl

reply-plain : {K : ℕ} (r : Reply K) → all-plain (reply_lines r) ≡ true
unfolding reply_lines
reply-plain (Put a) = one (at_place a.at (put_text a.value)) (at-place-plain a.at (put_text a.value) (put-plain a.value))
reply-plain (Removed a) = one (at_place a.at (removed_text a.value)) (at-place-plain a.at (removed_text a.value) (removed-plain a.value))
reply-plain (Got a) = one (at_place a.at (got_text a.value)) (at-place-plain a.at (got_text a.value) (got-plain a.value))
reply-plain (Listed a) = both (plain (at_place a.at (numbered (codes " rows ") (length a.value)))) (all-plain (map row_text a.value))
    (at-place-plain a.at (numbered (codes " rows ") (length a.value)) (numbered-plain (codes " rows ") (length a.value) refl)) (rows-plain a.value)
reply-plain (Counted a) = one (at_place a.at (numbered (codes " count ") a.value)) (at-place-plain a.at (numbered (codes " count ") a.value) (numbered-plain (codes " count ") a.value refl))
reply-plain (Stood a) = one (at_place a.at (stat_text a.value)) (at-place-plain a.at (stat_text a.value) (stat-plain a.value))
reply-plain (Rooted at) = one (at_place at (codes " rooted")) (at-place-plain at (codes " rooted") refl)
reply-plain (Refused why) = one (refusal_text why) (refusal-plain why)

module _ {X : Type 0} (f : X → List (List ℕ)) (h : (x : X) → all-plain (f x) ≡ true) where
  flat-plain : (xs : List X) → all-plain (flat_map f xs) ≡ true
  flat-plain [] = refl
  flat-plain (x ∷ xs) = all-append plain (f x) (flat_map f xs) (h x) (flat-plain xs)

group-plain : {K : ℕ} (g : Group K) → all-plain (group_lines g) ≡ true
group-plain g = both (plain (numbered (codes "client ") g.client)) (all-plain (flat_map reply_lines g.replies)) (numbered-plain (codes "client ") g.client refl) (flat-plain reply_lines reply-plain g.replies)

-- what is printed is the lines of the replies
pub prints-lines : {K : ℕ} → PrintsLines K
unfolding text text_lines
prints-lines = record {
  lines = λ groups front. lines-back (text_lines groups front)
      (all-append plain (flat_map group_lines groups) (numbered (codes "front ") front ∷ []) (flat-plain group_lines group-plain groups) (one (numbered (codes "front ") front) (numbered-plain (codes "front ") front refl)));
}
