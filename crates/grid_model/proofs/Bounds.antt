-- The bounds of a scale's intervals: each lies in its interval, and numbers of one interval lie on one side of each bound.
use Rattle.std.proofs.Common.{◌≡◌, ◌<◌, ◌≤◌, ◌+◌, ◌⊎◌, inl, inr, ℕ, zero, suc, pred, true, List, [], ◌∷◌, length, slice_index, map, ap, ◌∙◌, arith}
use Rattle.std.proofs.lemmas.Bool.{cases_lt}
use Rattle.std.proofs.lemmas.List.{length-map, length-append}
use Rattle.grid_model.specs.Lists.{is_among}
use Rattle.grid_types.specs.Keys.{top}
use Rattle.grid_model.specs.Scales.{ascends_from, is_scale, interval, low, lows, high, highs}
use Rattle.grid_model.proofs.ScaleLaws.{goes-on, tops, each-from, counted, in-first, interval-grows, has-bounds}
use Rattle.grid_model.proofs.Boundaries.{each-top, among-index}

-- no bound is above the top
pub low-top : (s : List ℕ) (i : ℕ) → is_scale s ≡ true → low s i ≤ top
low-top s zero e = omega arith
low-top s (suc i) e = each-top 1 s i e

pred-less : (b : ℕ) → pred b ≤ b
pred-less zero = omega arith
pred-less (suc b) = omega arith

high-from : (l : ℕ) (bs : List ℕ) (i : ℕ) → ascends_from l bs ≡ true → high bs i ≤ top
high-from l [] zero e = omega arith
high-from l [] (suc i) e = omega arith
high-from l (b ∷ bs) zero e = omega (arith, pred-less b, tops l b bs e)
high-from l (b ∷ bs) (suc i) e = high-from (b + 1) bs i (goes-on l b bs e)

pub high-top : (s : List ℕ) (i : ℕ) → is_scale s ≡ true → high s i ≤ top
high-top s i e = high-from 1 s i e

at-least-first : (b : ℕ) (bs : List ℕ) (i : ℕ) → ascends_from (b + 1) bs ≡ true → i ≤ length bs → b ≤ slice_index (b ∷ bs) i
at-least-first b bs zero e p = omega arith
at-least-first b bs (suc i) e p = omega (arith, each-from (b + 1) bs i e (omega (arith, p)))

-- the lowest number of an interval lies in it, where the first interval begins at s
low-from : (s : ℕ) (bs : List ℕ) (i : ℕ) → ascends_from (s + 1) bs ≡ true → i ≤ length bs → interval bs (slice_index (s ∷ bs) i) ≡ i
low-from s bs zero e p = in-first (s + 1) s bs e (omega arith)
low-from s [] (suc i) e p = absurd (omega (arith, p))
low-from s (b ∷ bs) (suc i) e p =
    let rest = goes-on (s + 1) b bs e in
    counted b (slice_index (b ∷ bs) i) bs (at-least-first b bs i rest (omega (arith, p))) ∙ ap suc (low-from b bs i rest (omega (arith, p)))

module _ (s : List ℕ) (i : ℕ) (e : is_scale s ≡ true) (p : i ≤ length s) where
  -- the lowest number of an interval lies in it
  pub low-lies : interval s (low s i) ≡ i
  low-lies = low-from 0 s i e p

  -- no interval is empty
  pub low-high : low s i ≤ high s i
  low-high = ((has-bounds s (low s i) i e (low-top s i e) p).1 low-lies).1

  -- the highest number of an interval lies in it
  pub high-lies : interval s (high s i) ≡ i
  high-lies = (has-bounds s (high s i) i e (high-top s i e) p).0 (low-high, omega arith)

  -- a number in an interval or a higher one is at least the interval's lowest
  pub low-reached : (v : ℕ) → i ≤ interval s v → low s i ≤ v
  low-reached v q = by (cases_lt v (low s i))
    where
      by : (v < low s i) ⊎ (low s i ≤ v) → low s i ≤ v
      by (inl r) = ((has-bounds s v i e (omega (arith, r, low-top s i e)) p).1 (omega (arith, q, low-lies, interval-grows s v (low s i) (omega (arith, r))))).0
      by (inr r) = r

  -- a number in an interval or a lower one is at most the interval's highest
  pub high-kept : (v : ℕ) → v ≤ top → interval s v ≤ i → v ≤ high s i
  high-kept v t q = by (cases_lt (high s i) v)
    where
      by : (high s i < v) ⊎ (v ≤ high s i) → v ≤ high s i
      by (inl r) = ((has-bounds s v i e t p).1 (omega (arith, q, high-lies, interval-grows s (high s i) v (omega (arith, r))))).1
      by (inr r) = r

length-highs : (s : List ℕ) → length (highs s) ≡ length s + 1
length-highs s = length-append (map pred s) (top ∷ []) ∙ omega (arith, length-map s pred)

module _ (s : List ℕ) (x y : ℕ) (e : is_scale s ≡ true) (same : interval s x ≡ interval s y) where
  -- a begin of an interval that is at most one of two numbers in one interval is at most the other
  pub begins-below : (lo : ℕ) → is_among (lows s) lo ≡ true → lo ≤ x → lo ≤ y
  begins-below lo h q =
      let at = among-index (lows s) lo h in
      let inside : at.0 ≤ length s = omega (arith, at.1) in
      let lies : low s at.0 ≤ x = omega (arith, at.2, q) in
      omega (arith, at.2, low-reached s at.0 e inside y (omega (arith, same, low-lies s at.0 e inside, interval-grows s (low s at.0) x lies)))

  -- and an end that is at least one of them is at least the other
  pub ends-above : (hi : ℕ) → y ≤ top → is_among (highs s) hi ≡ true → x ≤ hi → y ≤ hi
  ends-above hi t h q =
      let at = among-index (highs s) hi h in
      let inside : at.0 ≤ length s = omega (arith, at.1, length-highs s) in
      let lies : x ≤ high s at.0 = omega (arith, at.2, q) in
      omega (arith, at.2, high-kept s at.0 e inside y t (omega (arith, same, high-lies s at.0 e inside, interval-grows s x (high s at.0) lies)))
