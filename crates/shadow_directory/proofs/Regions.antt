-- The cells of a region whose bounds are ends of intervals are those whose lowest key it has.
use Rattle.std.proofs.Common.{◌≡◌, ◌<◌, ◌≤◌, ◌⊎◌, inl, inr, ℕ, true, List, length, slice_index, nat_le, sym, ap, ◌∙◌, arith}
use Rattle.std.proofs.lemmas.Bool.{cases_lt}
use Rattle.std.proofs.lemmas.List.{length-map}
use lib.Pointwise.{pointwise}
use Rattle.grid_types.specs.Regions.{contains, IsRegion}
use Rattle.grid_types.proofs.Numbers.{both, first, second, all-at-most, each-at-most}
use Rattle.grid_model.specs.Lists.{is_among}
use Rattle.grid_model.specs.Scales.{is_scale, interval, intervals, lows, highs, scale_of}
use Rattle.grid_model.specs.Cells.{dims, cell_of, corner, InCellBox}
use Rattle.grid_model.specs.ScaleLaws.{IsCell}
use Rattle.grid_model.specs.Layouts.{BucketBox, IsDrawn}
use Rattle.grid_model.proofs.Bounds.{begins-below, ends-above}
use Rattle.grid_model.proofs.CellLaws.{key-has-cell}
use Rattle.grid_model.proofs.LowestKeys.{corner-lies, corner-long, corner-number}
use Rattle.grid_model.proofs.OneCell.{cell_of-at}
use Rattle.grid_model.proofs.ScaleLaws.{interval-grows}
use Rattle.directory_changes.specs.Changes.{cell_box}

module _ {K : ℕ} (scales : List (List ℕ)) (b : BucketBox K) (cell : List ℕ) (count : length scales ≡ K) (lawful : (a : ℕ) → a < length scales → is_scale (scale_of scales a) ≡ true) (drawn : IsDrawn scales b) (region : IsRegion K b.region) (c : IsCell (dims scales) cell) where
  abbrev lo : List ℕ
  lo = b.region.lo

  abbrev hi : List ℕ
  hi = b.region.hi

  abbrev key : List ℕ
  key = corner scales cell

  cell-long : length cell ≡ length scales
  cell-long = c.count ∙ length-map scales intervals

  key-long : length (corner scales cell) ≡ length scales
  key-long = corner-long scales cell cell-long

  lo-long : length b.region.lo ≡ length scales
  lo-long = region.low.count ∙ sym count

  hi-long : length b.region.hi ≡ length scales
  hi-long = region.high.count ∙ sym count

  -- the interval of the lowest key is the cell's
  key-at : (a : ℕ) → a < length scales → interval (scale_of scales a) (slice_index (corner scales cell) a) ≡ slice_index cell a
  key-at a p = sym (cell_of-at scales (corner scales cell) a key-long p) ∙ ap (λ (x : List ℕ). slice_index x a) (corner-lies scales cell lawful c)

  low-at : (a : ℕ) → a < length scales → interval (scale_of scales a) (slice_index b.region.lo a) ≡ slice_index (cell_of scales b.region.lo) a
  low-at a p = sym (cell_of-at scales b.region.lo a lo-long p)

  high-at : (a : ℕ) → a < length scales → interval (scale_of scales a) (slice_index b.region.hi a) ≡ slice_index (cell_of scales b.region.hi) a
  high-at a p = sym (cell_of-at scales b.region.hi a hi-long p)

  corner-count : length (cell_of scales b.region.lo) ≡ length scales
  corner-count = (key-has-cell scales b.region.lo lo-long).count ∙ length-map scales intervals

  -- a cell whose lowest key the region has lies in the box of its cells
  pub key-in-box : contains b.region (corner scales cell) ≡ true → InCellBox (cell_box scales b.region) cell
  key-in-box has = record {
    count = cell-long ∙ sym corner-count;
    within = λ a p.
        let inside : a < length scales = omega (arith, p, cell-long) in
        let low = interval-grows (scale_of scales a) (slice_index b.region.lo a) (slice_index (corner scales cell) a) (each-at-most b.region.lo (corner scales cell) a below (omega (arith, inside, lo-long))) in
        let high = interval-grows (scale_of scales a) (slice_index (corner scales cell) a) (slice_index b.region.hi a) (each-at-most (corner scales cell) b.region.hi a above (omega (arith, inside, key-long))) in
        (omega (arith, low, low-at a inside, key-at a inside), omega (arith, high, high-at a inside, key-at a inside));
  }
    where
      below : pointwise nat_le b.region.lo (corner scales cell) ≡ true
      below = first (pointwise nat_le b.region.lo (corner scales cell)) (pointwise nat_le (corner scales cell) b.region.hi) has

      above : pointwise nat_le (corner scales cell) b.region.hi ≡ true
      above = second (pointwise nat_le b.region.lo (corner scales cell)) (pointwise nat_le (corner scales cell) b.region.hi) has

  begin : (a : ℕ) → a < length scales → is_among (lows (scale_of scales a)) (slice_index b.region.lo a) ≡ true
  begin a p = first (is_among (lows (scale_of scales a)) (slice_index b.region.lo a)) (is_among (highs (scale_of scales a)) (slice_index b.region.hi a)) (drawn a (omega (arith, p, count)))

  end : (a : ℕ) → a < length scales → is_among (highs (scale_of scales a)) (slice_index b.region.hi a) ≡ true
  end a p = second (is_among (lows (scale_of scales a)) (slice_index b.region.lo a)) (is_among (highs (scale_of scales a)) (slice_index b.region.hi a)) (drawn a (omega (arith, p, count)))

  -- no interval from that of a bound on has a number below the bound
  low-reached : (a : ℕ) → a < length scales → slice_index (cell_of scales b.region.lo) a ≤ slice_index cell a → slice_index b.region.lo a ≤ slice_index (corner scales cell) a
  low-reached a p le = by (cases_lt (slice_index (corner scales cell) a) (slice_index b.region.lo a))
    where
      by : (slice_index (corner scales cell) a < slice_index b.region.lo a) ⊎ (slice_index b.region.lo a ≤ slice_index (corner scales cell) a) → slice_index b.region.lo a ≤ slice_index (corner scales cell) a
      by (inr q) = q
      by (inl q) =
          let grow = interval-grows (scale_of scales a) (slice_index (corner scales cell) a) (slice_index b.region.lo a) (omega (arith, q)) in
          let same : interval (scale_of scales a) (slice_index b.region.lo a) ≡ interval (scale_of scales a) (slice_index (corner scales cell) a) = omega (arith, grow, le, low-at a p, key-at a p) in
          begins-below (scale_of scales a) (slice_index b.region.lo a) (slice_index (corner scales cell) a) (lawful a p) same (slice_index b.region.lo a) (begin a p) (omega arith)

  high-kept : (a : ℕ) → a < length scales → slice_index cell a ≤ slice_index (cell_of scales b.region.hi) a → slice_index (corner scales cell) a ≤ slice_index b.region.hi a
  high-kept a p le = by (cases_lt (slice_index b.region.hi a) (slice_index (corner scales cell) a))
    where
      by : (slice_index b.region.hi a < slice_index (corner scales cell) a) ⊎ (slice_index (corner scales cell) a ≤ slice_index b.region.hi a) → slice_index (corner scales cell) a ≤ slice_index b.region.hi a
      by (inr q) = q
      by (inl q) =
          let grow = interval-grows (scale_of scales a) (slice_index b.region.hi a) (slice_index (corner scales cell) a) (omega (arith, q)) in
          let same : interval (scale_of scales a) (slice_index b.region.hi a) ≡ interval (scale_of scales a) (slice_index (corner scales cell) a) = omega (arith, grow, le, high-at a p, key-at a p) in
          ends-above (scale_of scales a) (slice_index b.region.hi a) (slice_index (corner scales cell) a) (lawful a p) same (slice_index b.region.hi a) (corner-number scales cell lawful a) (end a p) (omega arith)

  -- and the other way round
  pub box-has-key : InCellBox (cell_box scales b.region) cell → contains b.region (corner scales cell) ≡ true
  box-has-key i = both (pointwise nat_le b.region.lo (corner scales cell)) (pointwise nat_le (corner scales cell) b.region.hi)
      (all-at-most b.region.lo (corner scales cell) (lo-long ∙ sym key-long) (λ a p.
      let inside : a < length scales = omega (arith, p, lo-long) in
      low-reached a inside (i.within a (omega (arith, inside, cell-long))).0))
      (all-at-most (corner scales cell) b.region.hi (key-long ∙ sym hi-long) (λ a p.
      let inside : a < length scales = omega (arith, p, key-long) in
      high-kept a inside (i.within a (omega (arith, inside, cell-long))).1))
