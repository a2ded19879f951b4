-- Keys of one cell are in the same regions whose bounds are ends of intervals.
use Rattle.std.proofs.Common.{◌≡◌, ◌<◌, ◌≤◌, ℕ, zero, suc, Bool, true, false, List, [], ◌∷◌, length, slice_index, nat_le, refl, sym, ap, ◌∙◌, arith}
use lib.Pointwise.{pointwise}
use Rattle.grid_types.specs.Regions.{contains}
use Rattle.grid_types.proofs.Numbers.{both, first, second, all-at-most, each-at-most, as-long}
use Rattle.grid_types.specs.Keys.{top}
use Rattle.grid_model.specs.Lists.{is_among}
use Rattle.grid_model.specs.Scales.{is_scale, interval, lows, highs, scale_of}
use Rattle.grid_model.specs.Cells.{cell_of}
use Rattle.grid_model.specs.Layouts.{BucketBox, IsDrawn}
use Rattle.grid_model.proofs.Bounds.{begins-below, ends-above}

-- two keys that lie in one cell
pub record InOneCell (scales : List (List ℕ)) (k q : List ℕ) : Type 0 where
  pub first_long : length k ≡ length scales
  pub second_long : length q ≡ length scales
  pub first_number : (a : ℕ) → slice_index k a ≤ top
  pub second_number : (a : ℕ) → slice_index q a ≤ top
  pub same : cell_of scales k ≡ cell_of scales q

turned : (scales : List (List ℕ)) (k q : List ℕ) → InOneCell scales k q → InOneCell scales q k
turned scales k q o = record { first_long = o.second_long; second_long = o.first_long; first_number = o.second_number; second_number = o.first_number; same = sym o.same }

-- the interval of a key's cell in an attribute
pub cell_of-at : (scales : List (List ℕ)) (k : List ℕ) (a : ℕ) → length k ≡ length scales → a < length scales → slice_index (cell_of scales k) a ≡ interval (scale_of scales a) (slice_index k a)
cell_of-at [] k a l p = absurd (omega (arith, p))
cell_of-at (s ∷ scales) [] a l p = absurd (omega (arith, l))
cell_of-at (s ∷ scales) (x ∷ k) zero l p = refl
cell_of-at (s ∷ scales) (x ∷ k) (suc a) l p = cell_of-at scales k a (omega (arith, l)) (omega (arith, p))

same-tests : (a b : Bool) → (a ≡ true → b ≡ true) → (b ≡ true → a ≡ true) → a ≡ b
same-tests true b f g = sym (f refl)
same-tests false true f g = g refl
same-tests false false f g = refl

module _ {K : ℕ} (scales : List (List ℕ)) (b : BucketBox K) (count : length scales ≡ K) (lawful : (a : ℕ) → a < length scales → is_scale (scale_of scales a) ≡ true) (drawn : IsDrawn scales b) where
  begin : (a : ℕ) → a < length scales → is_among (lows (scale_of scales a)) (slice_index b.region.lo a) ≡ true
  begin a p = first (is_among (lows (scale_of scales a)) (slice_index b.region.lo a)) (is_among (highs (scale_of scales a)) (slice_index b.region.hi a)) (drawn a (omega (arith, p, count)))

  end : (a : ℕ) → a < length scales → is_among (highs (scale_of scales a)) (slice_index b.region.hi a) ≡ true
  end a p = second (is_among (lows (scale_of scales a)) (slice_index b.region.lo a)) (is_among (highs (scale_of scales a)) (slice_index b.region.hi a)) (drawn a (omega (arith, p, count)))

  -- a box whose bounds are drawn and that has one key of a cell has each other one
  has-other : (k q : List ℕ) → InOneCell scales k q → contains b.region k ≡ true → contains b.region q ≡ true
  has-other k q o e = both (pointwise nat_le lo q) (pointwise nat_le q hi)
      (all-at-most lo q (omega (arith, as-long lo k below, o.first_long, o.second_long)) (λ a p.
      let inside : a < length scales = omega (arith, p, as-long lo k below, o.first_long) in
      begins-below (scale_of scales a) (slice_index k a) (slice_index q a) (lawful a inside) (same a inside) (slice_index lo a) (begin a inside) (each-at-most lo k a below p)))
      (all-at-most q hi (omega (arith, as-long k hi above, o.first_long, o.second_long)) (λ a p.
      let inside : a < length scales = omega (arith, p, o.second_long) in
      ends-above (scale_of scales a) (slice_index k a) (slice_index q a) (lawful a inside) (same a inside) (slice_index hi a) (o.second_number a) (end a inside) (each-at-most k hi a above (omega (arith, inside, o.first_long)))))
    where
      lo : List ℕ
      lo = b.region.lo

      hi : List ℕ
      hi = b.region.hi

      below : pointwise nat_le lo k ≡ true
      below = first (pointwise nat_le lo k) (pointwise nat_le k hi) e

      above : pointwise nat_le k hi ≡ true
      above = second (pointwise nat_le lo k) (pointwise nat_le k hi) e

      same : (a : ℕ) → a < length scales → interval (scale_of scales a) (slice_index k a) ≡ interval (scale_of scales a) (slice_index q a)
      same a p = sym (cell_of-at scales k a o.first_long p) ∙ ap (λ (c : List ℕ). slice_index c a) o.same ∙ cell_of-at scales q a o.second_long p

  -- it has both or neither
  pub box-alike : (k q : List ℕ) → InOneCell scales k q → contains b.region k ≡ contains b.region q
  box-alike k q o = same-tests (contains b.region k) (contains b.region q) (has-other k q o) (has-other q k (turned scales k q o))
