-- Lists that grow by pieces of one length.
use Rattle.std.proofs.Common.{◌≡◌, ◌<◌, ◌≤◌, inl, inr, ◌+◌, ◌-◌, ◌*◌, ◌++◌, ℕ, zero, suc, List, [], length, take, drop, slice_index, refl, sym, ap, ◌∙◌, subst, arith, length-append}
use Rattle.std.specs.Prelude.{min}
use Rattle.std.proofs.Math.ListN.{drop_of_length-le}
use Rattle.std.proofs.lemmas.Bool.{cases_lt}
use Rattle.std.proofs.lemmas.List.{nil_from_length, take_all, drop_at, take-append-le, drop-append-le, append-nil, length-take, length-drop, get_or-take, get_or-drop, get_or_past}
use Rattle.disk_trait.proofs.Pieces.{take_split}
use Rattle.grid_model.specs.Images.{half_of_scale}
use Rattle.file_roots.proofs.Slices.{first_half, second_half}

-- an earlier piece stays where the list grows
pub piece_old : (m at from t : ℕ) (old xs : List ℕ) → length old ≡ min from t → length xs ≡ min m (t - from) → at + m ≤ from → take m (drop at (old ++ xs)) ≡ take m (drop at old)
piece_old m at from t old xs lo lx le = elim (cases_lt t from) [
  | inl short ↦ ap (λ ys. take m (drop at ys)) (ap (λ ys. old ++ ys) (nil_from_length xs (omega (arith, lx, short))) ∙ append-nil old)
  | inr long ↦
      let whole : length old ≡ from = omega (arith, lo, long) in
      ap (take m) (drop-append-le at old xs (omega (arith, whole, le))) ∙ take-append-le m (drop at old) xs (omega (arith, length-drop at old, whole, le))
]

-- the piece by which a list grew
pub piece_new : (m from t : ℕ) (old xs : List ℕ) → length old ≡ min from t → length xs ≡ min m (t - from) → take m (drop from (old ++ xs)) ≡ xs
piece_new m from t old xs lo lx = elim (cases_lt t from) [
  | inl short ↦
      let empty = nil_from_length xs (omega (arith, lx, short)) in
      ap (take m) (drop_of_length-le (old ++ xs) {i = from} (omega (arith, length-append old xs, lo, lx, short))) ∙ take_all m [] (omega arith) ∙ sym empty
  | inr long ↦ ap (take m) (drop_at old xs from (omega (arith, lo, long))) ∙ take_all m xs (omega (arith, lx))
]

-- a list is what stands before its last piece, and that piece
pub piece_last : (m from : ℕ) (xs : List ℕ) → length xs ≤ from + m → xs ≡ take from xs ++ take m (drop from xs)
piece_last m from xs le = sym (take_all (from + m) xs le) ∙ take_split from m xs

-- halves of a scale are pieces
pub half_piece : (h : ℕ) (xs : List ℕ) → h < 2 → length xs ≤ 1000 → half_of_scale h xs ≡ take 500 (drop (500 * h) xs)
half_piece zero xs two le = first_half 0 xs refl
half_piece (suc zero) xs two le = second_half 1 xs (λ e. absurd (omega (arith, e))) ∙ sym (take_all 500 (drop 500 xs) (omega (arith, length-drop 500 xs, le)))
half_piece (suc (suc h)) xs two le = absurd (omega (arith, two))

-- numbers in a range stay so in a piece
pub in_piece : (most m at : ℕ) (xs : List ℕ) → 0 < most → ((i : ℕ) → slice_index xs i < most) → (i : ℕ) → slice_index (take m (drop at xs)) i < most
in_piece most m at xs some all i = elim (cases_lt i m) [
  | inl lt ↦ subst (λ (n : ℕ). n < most) (sym (get_or-take m (drop at xs) i 0 lt ∙ get_or-drop at xs i 0)) (all (at + i))
  | inr ge ↦ subst (λ (n : ℕ). n < most) (sym (get_or_past (take m (drop at xs)) i 0 (omega (arith, length-take m (drop at xs), ge)))) some
]

-- lists whose pieces are the same have the same front
pub same_front : (n : ℕ) (xs ys : List ℕ) → ((k : ℕ) → k < n → take 1000 (drop (1000 * k) xs) ≡ take 1000 (drop (1000 * k) ys)) → take (1000 * n) xs ≡ take (1000 * n) ys
same_front zero xs ys same = refl
same_front (suc n) xs ys same =
    let next : 1000 * suc n ≡ 1000 * n + 1000 = omega arith in
    ap (λ (k : ℕ). take k xs) next ∙ take_split (1000 * n) 1000 xs
    ∙ ap (λ zs. zs ++ take 1000 (drop (1000 * n) xs)) (same_front n xs ys (λ k lt. same k (omega (arith, lt))))
    ∙ ap (λ zs. take (1000 * n) ys ++ zs) (same n (omega arith))
    ∙ sym (ap (λ (k : ℕ). take k ys) next ∙ take_split (1000 * n) 1000 ys)
