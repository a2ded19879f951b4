-- A page whose cells get another bucket, one after the other.
use Rattle.std.proofs.Common.{◌≡◌, ◌<◌, ◌+◌, ◌*◌, ◌^◌, ℕ, suc, List, ◌∷◌, ◌++◌, length, take, drop, get_or, slice_set, set, sym, ap, ◌∙◌, append_assoc, length-append, arith}
use Rattle.std.proofs.lemmas.List.{take_at, drop_at, set_split, length-set, length-take-le, take-append-drop, drop_more}
use Rattle.page_fields.specs.Fields.{bytes_of, replaced}
use Rattle.page_fields.specs.Padded.{numbers}
use Rattle.page_fields.proofs.Bodies.{zeros_left}
use Rattle.page_fields.proofs.BytesOf.{length-bytes_of, length-numbers}
use Rattle.page_fields.proofs.Steps.{set_below}
use Rattle.grid_model.specs.Spellings.{directory_spelling}
use Rattle.directory_pages.specs.Spelling.{part_head, SpellsPart}
use Rattle.directory_pages.proofs.Words.{words-append, words-cons}
use Rattle.directory_pages.proofs.Standing.{page_is, length-head}

-- the middle of three parts gets other bytes, as many
replaced_mid : (at : ℕ) (a b c new : List ℕ) → length a ≡ at → length new ≡ length b → replaced at new (a ++ (b ++ c)) ≡ a ++ (new ++ c)
replaced_mid at a b c new la ln =
    let front : take at (a ++ (b ++ c)) ≡ a = take_at a (b ++ c) at la in
    let whole : drop (at + length new) (a ++ (b ++ c)) ≡ c = ap (drop (at + length new)) (sym (append_assoc a b c)) ∙ drop_at (a ++ b) c (at + length new) (length-append a b ∙ omega arith) in
    ap (λ (f : List ℕ). f ++ (new ++ drop (at + length new) (a ++ (b ++ c)))) front ∙ ap (λ (r : List ℕ). a ++ (new ++ r)) whole

-- the page of cells with one among them: what stands in front of it, its bytes, and what stands behind it
split_page : (part n : ℕ) (f : List ℕ) (x : ℕ) (r : List ℕ) → length (f ++ x ∷ r) ≡ n → directory_spelling part (f ++ x ∷ r) ≡ (part_head part n ++ numbers 4 f) ++ (bytes_of 4 x ++ (numbers 4 r ++ zeros_left 4 n))
split_page part n f x r long =
    let cells : numbers 4 (f ++ x ∷ r) ≡ numbers 4 f ++ (bytes_of 4 x ++ numbers 4 r) = words-append f (x ∷ r) ∙ ap (λ (w : List ℕ). numbers 4 f ++ w) (words-cons x r) in
    page_is part (f ++ x ∷ r)
    ∙ ap (λ (m : ℕ). part_head part m ++ (numbers 4 (f ++ x ∷ r) ++ zeros_left 4 m)) long
    ∙ ap (λ (w : List ℕ). part_head part n ++ (w ++ zeros_left 4 n)) cells
    ∙ simp append_assoc

-- a page whose cell i gets a bucket is the page of the cells with that bucket at i
set_page : (part i x : ℕ) (cells : List ℕ) → i < length cells → replaced (96 + 4 * i) (bytes_of 4 x) (directory_spelling part cells) ≡ directory_spelling part (set cells i x)
set_page part i x cells lt =
    let n = length cells in
    let f = take i cells in
    let r = drop (suc i) cells in
    let old = get_or cells i 0 in
    let next : i + 1 ≡ suc i = omega arith in
    let was : cells ≡ f ++ old ∷ r = sym (take-append-drop i cells) ∙ ap (λ (t : List ℕ). f ++ t) (drop_more cells i 0 lt ∙ ap (λ (k : ℕ). old ∷ drop k cells) next) in
    let is : set cells i x ≡ f ++ x ∷ r = set_split cells i x lt in
    let front : length (part_head part n ++ numbers 4 f) ≡ 96 + 4 * i = length-append (part_head part n) (numbers 4 f) ∙ omega (arith, length-head part n, length-numbers 4 f, length-take-le i cells (omega arith)) in
    let tail = numbers 4 r ++ zeros_left 4 n in
    ap (λ (cs : List ℕ). replaced (96 + 4 * i) (bytes_of 4 x) (directory_spelling part cs)) was
    ∙ ap (replaced (96 + 4 * i) (bytes_of 4 x)) (split_page part n f old r (sym (ap length was)))
    ∙ replaced_mid (96 + 4 * i) (part_head part n ++ numbers 4 f) (bytes_of 4 old) tail (bytes_of 4 x) front (length-bytes_of 4 x ∙ sym (length-bytes_of 4 old))
    ∙ sym (split_page part n f x r (sym (ap length is) ∙ length-set cells i x))
    ∙ ap (directory_spelling part) (sym is)

-- what is spelled once a cell was written
pub cell_set : (part i x : ℕ) (old new cells : List ℕ) → new ≡ replaced (96 + 4 * i) (bytes_of 4 x) old → x < 2 ^ 32 → SpellsPart part old cells → i < length cells → SpellsPart part new (slice_set cells i x)
cell_set part i x old new cells e fit s lt = record {
  part_in_range = s.part_in_range;
  in_range = set_below (2 ^ 32) cells i x fit (omega arith) s.in_range;
  few = omega (arith, length-set cells i x, s.few);
  bytes = e ∙ ap (replaced (96 + 4 * i) (bytes_of 4 x)) s.bytes ∙ set_page part i x cells lt;
}
