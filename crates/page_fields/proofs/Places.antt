-- What stands at an offset of a page that is an append of fields.
use Rattle.std.proofs.Common.{◌≡◌, ◌<◌, ◌+◌, ◌-◌, ◌*◌, ◌^◌, ℕ, zero, suc, List, [], ◌∷◌, ◌++◌, length, drop, get_or, slice_index, replicate, sym, ap, ◌∙◌, append_assoc, arith}
use Rattle.std.specs.List.{flat_map}
use Rattle.std.proofs.lemmas.List.{drop-drop, drop_at, get_or-drop, same_lists, get_or_default}
use Rattle.page_fields.specs.Fields.{number, bytes_of}
use Rattle.page_fields.specs.Padded.{padded, numbers}
use Rattle.page_fields.specs.Corners.{CornerAt}
use Rattle.page_fields.proofs.BytesOf.{number-back, length-bytes_of}

-- what stands behind a field of known length
pub behind : (n m k : ℕ) (page f r : List ℕ) → drop n page ≡ f ++ r → length f ≡ m → k ≡ n + m → drop k page ≡ r
behind n m k page f r e len is =
    ap (λ (i : ℕ). drop i page) is ∙ sym (drop-drop m n page) ∙ ap (drop m) e ∙ drop_at f r m len

-- the byte at an offset
pub byte_there : (n : ℕ) (page : List ℕ) (x : ℕ) (r : List ℕ) → drop n page ≡ x ∷ r → slice_index page n ≡ x
byte_there n page x r e = ap (λ (i : ℕ). get_or page i 0) (omega arith) ∙ sym (get_or-drop n page 0 0) ∙ ap (λ (xs : List ℕ). get_or xs 0 0) e

-- one of several parts of one length
pub part_at : {X : Type 0} (f : X → List ℕ) (n : ℕ) (xs : List X) (rest : List ℕ) (a : ℕ) (d : X) → ((i : ℕ) → i < length xs → length (f (get_or xs i d)) ≡ n) → a < length xs
    → (tail : List ℕ) × (drop (n * a) (flat_map f xs ++ rest) ≡ f (get_or xs a d) ++ tail)
part_at f n [] rest a d each lt = absurd (omega arith)
part_at f n (x ∷ xs) rest zero d each lt =
    let none : n * 0 ≡ 0 = omega arith in
    (flat_map f xs ++ rest, ap (λ (k : ℕ). drop k (flat_map f (x ∷ xs) ++ rest)) none ∙ append_assoc (f x) (flat_map f xs) rest)
part_at f n (x ∷ xs) rest (suc a) d each lt =
    let p = part_at f n xs rest a d (λ i h. each (suc i) (omega (arith, h))) (omega (arith, lt)) in
    let split : n * suc a ≡ n + n * a = grind arith in
    let first : drop n (flat_map f (x ∷ xs) ++ rest) ≡ flat_map f xs ++ rest = ap (drop n) (append_assoc (f x) (flat_map f xs) rest) ∙ drop_at (f x) (flat_map f xs ++ rest) n (each zero (omega arith)) in
    (p.0, ap (λ (k : ℕ). drop k (flat_map f (x ∷ xs) ++ rest)) split ∙ sym (drop-drop (n * a) n (flat_map f (x ∷ xs) ++ rest)) ∙ ap (drop (n * a)) first ∙ p.1)

-- a corner stands where it was spelled
pub corner_there : (K : ℕ) (page : List ℕ) (at : ℕ) (xs r : List ℕ) → drop at page ≡ padded 32 (numbers 8 xs) ++ r → length xs ≡ K → ((a : ℕ) → slice_index xs a < 2 ^ 64) → CornerAt K page at xs
unfolding padded numbers
corner_there K page at xs r e count in_range = record {
  count = count;
  in_range = in_range;
  each = λ a h.
      let zs : List ℕ = replicate (32 - length (numbers 8 xs)) 0 in
      let whole : drop at page ≡ flat_map (bytes_of 8) xs ++ (zs ++ r) = e ∙ append_assoc (flat_map (bytes_of 8) xs) zs r in
      let p = part_at (bytes_of 8) 8 xs (zs ++ r) a 0 (λ i g. length-bytes_of 8 (get_or xs i 0)) (omega (arith, count, h)) in
      let there : drop (at + 8 * a) page ≡ bytes_of 8 (get_or xs a 0) ++ p.0 = sym (drop-drop (8 * a) at page) ∙ ap (drop (8 * a)) whole ∙ p.1 in
      sym (ap (number 8) there ∙ number-back 8 (get_or xs a 0) p.0 (in_range a));
}

-- at one offset stands one corner
pub one_corner : (K : ℕ) (page : List ℕ) (at : ℕ) (xs ys : List ℕ) → CornerAt K page at xs → CornerAt K page at ys → ys ≡ xs
one_corner K page at xs ys x y =
    same_lists ys xs (omega (arith, x.count, y.count)) (λ a d h.
    let low : a < K = omega (arith, y.count, h) in
    get_or_default ys a d 0 h ∙ y.each a low ∙ sym (x.each a low) ∙ get_or_default xs a 0 d (omega (arith, x.count, low)))
