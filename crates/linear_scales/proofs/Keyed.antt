-- The region of the keys of a cell.
use Rattle.std.proofs.Common.{◌≡◌, ◌<◌, ◌≤◌, ◌^◌, ◌↔◌, ℕ, zero, suc, List, [], ◌∷◌, length, get_or, slice_index, IsTrue, refl, sym, ap, ◌∙◌, subst, arith}
use Rattle.std.proofs.lemmas.List.{get_or_read}
use Rattle.grid_types.specs.Keys.{IsKey, top}
use Rattle.grid_types.specs.Regions.{Within, contains, IsRegion}
use Rattle.grid_types.proofs.Numbers.{contains-within}
use Rattle.grid_model.specs.Scales.{interval, low, high}
use Rattle.grid_model.specs.Cells.{cell_of}
use Rattle.grid_model.proofs.Bounds.{low-high, high-top}
use Rattle.linear_scales.specs.Limited.{LimitedScale, IsLimited, scales_of}
use Rattle.linear_scales.proofs.Filling.{cell-filled}

-- two numbers are the ends of an interval of a scale: from the one to the other go exactly its numbers, and there are some
pub record AreEnds (s : LimitedScale) (i lo hi : ℕ) : Type 0 where
  pub contain : (v : ℕ) → v ≤ top → ((lo ≤ v) × (v ≤ hi)) ↔ (interval s.boundaries v ≡ i)
  pub some : lo ≤ hi
  pub high : hi ≤ top

-- they are those of the interval that a cell has in the scale of an index
abbrev pub AreEndsAt : List LimitedScale → List ℕ → ℕ → ℕ → ℕ → Type 0
AreEndsAt ss cell k lo hi = (d : LimitedScale) → AreEnds (get_or ss k d) (slice_index cell k) lo hi

-- the bounds that were found for the scale that was read at an index
pub ends-read : (ss : List LimitedScale) (cell : List ℕ) (a : ℕ) (s : LimitedScale) (lo hi : ℕ) → a < length ss → s ≡ get_or ss a s → IsLimited s → slice_index cell a ≤ length s.boundaries
    → lo ≡ low s.boundaries (slice_index cell a) → hi ≡ high s.boundaries (slice_index cell a) → ((v : ℕ) → v ≤ top → ((lo ≤ v) × (v ≤ hi)) ↔ (interval s.boundaries v ≡ slice_index cell a)) → AreEndsAt ss cell a lo hi
ends-read ss cell a s lo hi p is l n q r h d =
    subst (λ (x : LimitedScale). AreEnds x (slice_index cell a) lo hi) (get_or_read ss a s p is d)
    (record { contain = h; some = omega (arith, q, r, low-high s.boundaries (slice_index cell a) l.scale n); high = omega (arith, r, high-top s.boundaries (slice_index cell a) l.scale) })

-- numbers that are those of an attribute fit 64 bits, and so does what stands behind them
in-range : (xs : List ℕ) → ((k : ℕ) → k < length xs → slice_index xs k ≤ top) → (a : ℕ) → slice_index xs a < 2 ^ 64
in-range [] h a = omega arith
in-range (x ∷ xs) h zero = omega (arith, h zero (omega arith))
in-range (x ∷ xs) h (suc a) = in-range xs (λ k r. h (suc k) (omega (arith, r))) a

-- the cell of a key has at each index the interval of the key's number
cell-at : (ss : List LimitedScale) (key : List ℕ) (k : ℕ) (d : LimitedScale) → length key ≡ length ss → k < length ss → slice_index (cell_of (scales_of ss) key) k ≡ interval (get_or ss k d).boundaries (slice_index key k)
cell-at [] key k d p q = absurd (omega (arith, q))
cell-at (s ∷ ss) [] k d p q = absurd (omega (arith, p))
cell-at (s ∷ ss) (n ∷ key) zero d p q = refl
cell-at (s ∷ ss) (n ∷ key) (suc k) d p q = cell-at ss key k d (omega (arith, p)) (omega (arith, q))

module _ {K : ℕ} (ss : List LimitedScale) (cell lo hi : List ℕ) (p : length ss ≡ K) (q : length cell ≡ K) (l : length lo ≡ K) (h : length hi ≡ K) (each : (k : ℕ) → k < K → AreEndsAt ss cell k (slice_index lo k) (slice_index hi k)) where
  none : LimitedScale
  none = record { boundaries = []; limit = 0 }

  -- the region between the ends is one
  pub ends-region : IsRegion K (record { lo = lo; hi = hi })
  ends-region = record {
    low = record { count = l; in_range = in-range lo (λ k r. let e = each k (omega (arith, r, l)) none in omega (arith, e.some, e.high)) };
    high = record { count = h; in_range = in-range hi (λ k r. (each k (omega (arith, r, h)) none).high) };
    not_empty = λ a r. (each a r none).some;
  }

  -- it contains exactly the keys of the cell
  pub ends-contain : (key : List ℕ) → IsKey K key → IsTrue (contains {K = K} (record { lo = lo; hi = hi }) key) ↔ (cell_of (scales_of ss) key ≡ cell)
  ends-contain key is = (λ e. there ((contains-within lo hi key (l ∙ sym is.count) (is.count ∙ sym h)).0 e), λ e. (contains-within lo hi key (l ∙ sym is.count) (is.count ∙ sym h)).1 (back e))
    where
      low-number : (a : ℕ) → slice_index key a ≤ top
      low-number a = omega (arith, is.in_range a)

      there : Within lo hi key → cell_of (scales_of ss) key ≡ cell
      there w = sym (cell-filled ss key cell (is.count ∙ sym p) (q ∙ sym p) (λ k d r.
          sym (((each k (omega (arith, r, p)) d).contain (slice_index key k) (low-number k)).0 (w k (omega (arith, r, p, is.count))))))

      back : cell_of (scales_of ss) key ≡ cell → Within lo hi key
      back e a r = ((each a (omega (arith, r, is.count)) none).contain (slice_index key a) (low-number a)).1
          (sym (cell-at ss key a none (is.count ∙ sym p) (omega (arith, r, is.count, p))) ∙ ap (λ xs. slice_index xs a) e)
