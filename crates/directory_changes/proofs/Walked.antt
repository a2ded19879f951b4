-- The walk over the attributes, from the last to the first, for the least index of a cell of a box.
use Rattle.std.proofs.Common.{◌≡◌, ◌<◌, ◌≤◌, ◌+◌, ◌-◌, ◌*◌, ◌/◌, ◌%◌, ◌∷◌, ℕ, zero, suc, List, [], length, slice_index, drop, Option, Some, None, refl, sym, ap, ◌∙◌, subst, arith}
use Rattle.std.specs.Prelude.{MatchOption}
use Rattle.std.proofs.Math.Nat.{mul_assoc, mul_comm, add-mul, mul-le-mul_right, le-mul_of_pos_right}
use Rattle.std.proofs.lemmas.List.{drop_more, drop_all}
use Rattle.std.proofs.lemmas.Nat.{div-add-mod', mod_below}
use Rattle.grid_types.specs.declared.cell_box.CellBox.{CellBox}
use Rattle.grid_model.specs.Lists.{product}
use Rattle.grid_model.specs.Cells.{cell_index, InCellBox}
use Rattle.grid_model.specs.ScaleLaws.{IsCell}
use Rattle.grid_model.proofs.Indices.{cell_index-below, cell_index-cons}
use Rattle.grid_cells.specs.Dims.{IsDims}
use Rattle.grid_cells.proofs.Products.{Positive, product-rest}
use Rattle.directory_pages.specs.CellBoxes.{HasIndex, HoldsCell}
use Rattle.directory_changes.specs.Changes.{HasCorners}
use Rattle.directory_changes.specs.Indices.{IsUpright, IsLeastFrom, IsNoneOnward, least_with}
use Rattle.directory_changes.proofs.Least.{AreCorners, Lies, IsLeastOf, lies-cell, least-none, least-more}

-- the corners of an upright box
pub corners : {K : ℕ} (ns : List ℕ) (b : CellBox K) → HasCorners ns b → IsUpright b → AreCorners ns b.lo b.hi
corners ns b c u = record {
  lows = c.low.count;
  highs = c.high.count;
  upright = λ a p. u a (omega (arith, p, c.low.count));
  under = c.high.each;
}

-- the cells behind an attribute have no more indices than all
pub rest-few : (ns : List ℕ) (a : ℕ) → Positive ns → product (drop a ns) ≤ product ns
rest-few ns zero h = omega arith
rest-few [] (suc a) h = omega arith
rest-few (n ∷ ns) (suc a) h =
    let later : Positive ns = λ b p. h (suc b) (omega (arith, p)) in
    let one : 0 < n = omega (arith, h zero (omega arith)) in
    omega (arith, rest-few ns a later, le-mul_of_pos_right (product ns) one, mul_comm n (product ns))

-- corners of the attributes from one on
drop-corners : (ns lo hi : List ℕ) (a : ℕ) → AreCorners ns lo hi → AreCorners (drop a ns) (drop a lo) (drop a hi)
drop-corners ns lo hi zero f = f
drop-corners [] [] [] (suc a) f = f
drop-corners [] (l ∷ lo) hi (suc a) f = absurd (omega (arith, f.lows))
drop-corners [] [] (h ∷ hi) (suc a) f = absurd (omega (arith, f.highs))
drop-corners (n ∷ ns) [] hi (suc a) f = absurd (omega (arith, f.lows))
drop-corners (n ∷ ns) (l ∷ lo) [] (suc a) f = absurd (omega (arith, f.highs))
drop-corners (n ∷ ns) (l ∷ lo) (h ∷ hi) (suc a) f = drop-corners ns lo hi a (record {
  lows = omega (arith, f.lows);
  highs = omega (arith, f.highs);
  upright = λ b p. f.upright (suc b) (omega (arith, p));
  under = λ b p. f.under (suc b) (omega (arith, p));
})

-- the attributes from one on have been gone through: so many cells are behind it, and this is the least index of one from the start's rest on
pub record Walked (ns lo hi : List ℕ) (from a rest size lowest : ℕ) (least : Option ℕ) : Type 0 where
  pub size_is : size ≡ product (drop a ns)
  pub lowest_is : lowest ≡ cell_index (drop a ns) (drop a lo)
  pub low : rest * size ≤ from
  pub high : from < rest * size + size
  pub least_is : IsLeastOf (drop a ns) (drop a lo) (drop a hi) (from - rest * size) least

-- none has been gone through
pub walk-begins : (ns lo hi : List ℕ) (from a : ℕ) → length ns ≤ a → length lo ≤ a → length hi ≤ a → Walked ns lo hi from a from 1 0 (Some 0)
walk-begins ns lo hi from a p q r =
    let n : drop a ns ≡ [] = drop_all a ns p in
    let l : drop a lo ≡ [] = drop_all a lo q in
    let h : drop a hi ≡ [] = drop_all a hi r in
    let zero-left : from - from * 1 ≡ 0 = omega arith in
    record {
      size_is = ap product (sym n);
      lowest_is = λ i. cell_index (sym n i) (sym l i);
      low = omega arith;
      high = omega arith;
      least_is =
          subst (λ (xs : List ℕ). IsLeastOf xs (drop a lo) (drop a hi) (from - from * 1) (Some 0)) (sym n)
          (subst (λ (xs : List ℕ). IsLeastOf [] xs (drop a hi) (from - from * 1) (Some 0)) (sym l)
          (subst (λ (xs : List ℕ). IsLeastOf [] [] xs (from - from * 1) (Some 0)) (sym h)
          (subst (λ (x : ℕ). IsLeastOf [] [] [] x (Some 0)) (sym zero-left) least-none)));
    }

module _ (ns lo hi : List ℕ) (from a rest size lowest : ℕ) (least : Option ℕ) (f : AreCorners ns lo hi) (pos : Positive ns) (p : a < length ns) (w : Walked ns lo hi from (a + 1) rest size lowest least) where
  abbrev interval : ℕ
  interval = rest % slice_index ns a

  -- the interval of the start is one of the attribute's
  inside : rest % slice_index ns a < slice_index ns a
  inside = mod_below rest (slice_index ns a) (omega (arith, pos a p))

  first : drop a ns ≡ slice_index ns a ∷ drop (a + 1) ns
  first = drop_more ns a 0 p

  first-low : drop a lo ≡ slice_index lo a ∷ drop (a + 1) lo
  first-low = drop_more lo a 0 (omega (arith, p, f.lows))

  first-high : drop a hi ≡ slice_index hi a ∷ drop (a + 1) hi
  first-high = drop_more hi a 0 (omega (arith, p, f.highs))

  pub here : AreCorners (slice_index ns a ∷ drop (a + 1) ns) (slice_index lo a ∷ drop (a + 1) lo) (slice_index hi a ∷ drop (a + 1) hi)
  here =
      subst (λ (xs : List ℕ). AreCorners xs (slice_index lo a ∷ drop (a + 1) lo) (slice_index hi a ∷ drop (a + 1) hi)) first
      (subst (λ (xs : List ℕ). AreCorners (drop a ns) xs (slice_index hi a ∷ drop (a + 1) hi)) first-low
      (subst (λ (xs : List ℕ). AreCorners (drop a ns) (drop a lo) xs) first-high (drop-corners ns lo hi a f)))

  later : AreCorners (drop (a + 1) ns) (drop (a + 1) lo) (drop (a + 1) hi)
  later = drop-corners ns lo hi (a + 1) f

  -- what the attribute's cells come to
  pub whole : slice_index ns a * size ≡ product (drop a ns)
  whole = ap (λ m. slice_index ns a * m) w.size_is ∙ sym (product-rest ns a p)

  -- a number below that of the intervals, times the cells behind, leaves room for them
  room : (i : ℕ) → i < slice_index ns a → i * size + size ≤ product ns
  room i q = omega (arith, mul-le-mul_right size (next i q), add-mul i 1 size, whole, rest-few ns a pos)
    where
      next : (i : ℕ) → i < slice_index ns a → i + 1 ≤ slice_index ns a
      next i q = omega (arith, q)

  parted : rest * size ≡ (rest / slice_index ns a) * (slice_index ns a * size) + interval * size
  parted =
      ap (λ x. x * size) (sym (div-add-mod' rest (slice_index ns a)))
      ∙ add-mul (rest / slice_index ns a * slice_index ns a) interval size
      ∙ ap (λ x. x + interval * size) (mul_assoc (rest / slice_index ns a) (slice_index ns a) size)

  short : from - rest * size < product (drop (a + 1) ns)
  short = omega (arith, w.low, w.high, w.size_is)

  left : from - rest / slice_index ns a * (slice_index ns a * size) ≡ interval * product (drop (a + 1) ns) + (from - rest * size)
  left = let same : interval * size ≡ interval * product (drop (a + 1) ns) = ap (λ m. interval * m) w.size_is in omega (arith, parted, same, w.low)

  -- the lowest index behind is below their number
  lowest-short : lowest < size
  lowest-short = omega (arith, w.lowest_is, w.size_is, cell_index-below (drop (a + 1) ns) (drop (a + 1) lo) (lies-cell (drop (a + 1) ns) (drop (a + 1) lo) (drop (a + 1) hi) (drop (a + 1) lo) later (record { count = later.lows; above = λ b q. omega arith; below = later.upright })))

  -- and so is the least one
  least-short : MatchOption least (Unit {0}) (λ x. x < size)
  least-short = by least w.least_is
    where
      by : (o : Option ℕ) → IsLeastOf (drop (a + 1) ns) (drop (a + 1) lo) (drop (a + 1) hi) (from - rest * size) o → MatchOption o (Unit {0}) (λ x. x < size)
      by None m = tt
      by (Some x) m = omega (arith, m.index_is, w.size_is, cell_index-below (drop (a + 1) ns) m.cell (lies-cell (drop (a + 1) ns) (drop (a + 1) lo) (drop (a + 1) hi) m.cell later m.lies))

  -- the next sums are at most the number of cells
  lowest-fits : lowest + slice_index lo a * size ≤ product ns
  lowest-fits = omega (arith, lowest-short, room (slice_index lo a) (omega (arith, f.upright a p, f.under a p)))

  size-fits : size * slice_index ns a ≤ product ns
  size-fits = omega (arith, mul_comm size (slice_index ns a), whole, rest-few ns a pos)

  -- one attribute more
  walk-on : (new : Option ℕ) → new ≡ least_with (rest % slice_index ns a) (slice_index lo a) (slice_index hi a) size lowest least
      → Walked ns lo hi from a (rest / slice_index ns a) (size * slice_index ns a) (lowest + slice_index lo a * size) new
  walk-on new e =
      let turned : size * slice_index ns a ≡ slice_index ns a * size = mul_comm size (slice_index ns a) in
      let same : rest / slice_index ns a * (size * slice_index ns a) ≡ rest / slice_index ns a * (slice_index ns a * size) = ap (λ x. rest / slice_index ns a * x) turned in
      let up : interval * size + size ≤ slice_index ns a * size = omega (arith, mul-le-mul_right size (next interval (slice_index ns a) inside), add-mul interval 1 size) in
      let is : new ≡ least_with interval (slice_index lo a) (slice_index hi a) (product (drop (a + 1) ns)) (cell_index (drop (a + 1) ns) (drop (a + 1) lo)) least =
      e ∙ (λ i. least_with interval (slice_index lo a) (slice_index hi a) (w.size_is i) (w.lowest_is i) least) in
      let found : IsLeastOf (slice_index ns a ∷ drop (a + 1) ns) (slice_index lo a ∷ drop (a + 1) lo) (slice_index hi a ∷ drop (a + 1) hi) (interval * product (drop (a + 1) ns) + (from - rest * size)) new =
      subst (λ (o : Option ℕ). IsLeastOf (slice_index ns a ∷ drop (a + 1) ns) (slice_index lo a ∷ drop (a + 1) lo) (slice_index hi a ∷ drop (a + 1) hi) (interval * product (drop (a + 1) ns) + (from - rest * size)) o) (sym is)
      (least-more (slice_index ns a) (slice_index lo a) (slice_index hi a) interval (drop (a + 1) ns) (drop (a + 1) lo) (drop (a + 1) hi) (from - rest * size) here short least w.least_is) in
      record {
        size_is = turned ∙ whole;
        lowest_is =
            let cons = cell_index-cons (slice_index ns a) (slice_index lo a) (drop (a + 1) ns) (drop (a + 1) lo) later.lows in
            let one : slice_index lo a * size ≡ slice_index lo a * product (drop (a + 1) ns) = ap (λ m. slice_index lo a * m) w.size_is in
            let sum : lowest + slice_index lo a * size ≡ slice_index lo a * product (drop (a + 1) ns) + cell_index (drop (a + 1) ns) (drop (a + 1) lo) = omega (arith, one, w.lowest_is) in
            sum ∙ sym cons ∙ (λ i. cell_index (sym first i) (sym first-low i));
        low = omega (arith, same, parted, w.low);
        high = omega (arith, same, turned, parted, up, w.high);
        least_is =
            subst (λ (x : ℕ). IsLeastOf (drop a ns) (drop a lo) (drop a hi) x new) (sym (ap (λ x. from - x) same ∙ left))
            (subst (λ (xs : List ℕ). IsLeastOf xs (drop a lo) (drop a hi) (interval * product (drop (a + 1) ns) + (from - rest * size)) new) (sym first)
            (subst (λ (xs : List ℕ). IsLeastOf (slice_index ns a ∷ drop (a + 1) ns) xs (drop a hi) (interval * product (drop (a + 1) ns) + (from - rest * size)) new) (sym first-low)
            (subst (λ (xs : List ℕ). IsLeastOf (slice_index ns a ∷ drop (a + 1) ns) (slice_index lo a ∷ drop (a + 1) lo) xs (interval * product (drop (a + 1) ns) + (from - rest * size)) new) (sym first-high) found)));
      }
    where
      next : (x y : ℕ) → x < y → x + 1 ≤ y
      next x y q = omega (arith, q)

-- what the next step of the walk needs, and what it makes: no sum is too large, and one attribute more has been gone through
pub record StepsBack {K : ℕ} (ns : List ℕ) (b : CellBox K) (from a rest size lowest : ℕ) (least : Option ℕ) : Type 0 where
  pub few : rest % slice_index ns a * size + size ≤ 1000000
  pub high : slice_index b.hi a * size + size ≤ 1000000
  pub low : lowest < size
  pub inside : MatchOption least (Unit {0}) (λ x. x < size)
  pub lowest_fits : lowest + slice_index b.lo a * size ≤ 1000000
  pub size_fits : size * slice_index ns a ≤ 1000000
  pub on : (new : Option ℕ) → new ≡ least_with (rest % slice_index ns a) (slice_index b.lo a) (slice_index b.hi a) size lowest least
      → Walked ns b.lo b.hi from a (rest / slice_index ns a) (size * slice_index ns a) (lowest + slice_index b.lo a * size) new

-- the walk goes from one attribute to the one before it
pub step-back : {K : ℕ} (ns : List ℕ) (b : CellBox K) (from a rest size lowest : ℕ) (least : Option ℕ) → IsDims ns → HasCorners ns b → IsUpright b → 0 < a → a ≤ length ns → Walked ns b.lo b.hi from a rest size lowest least → StepsBack ns b from (a - 1) rest size lowest least
step-back ns b from a rest size lowest least d c u p q walked =
    let f = corners ns b c u in
    let here : a - 1 < length ns = omega (arith, p, q) in
    let same : a ≡ a - 1 + 1 = omega (arith, p) in
    let w = subst (λ (x : ℕ). Walked ns b.lo b.hi from x rest size lowest least) same walked in
    let i = inside ns b.lo b.hi from (a - 1) rest size lowest least f d.each here w in
    record {
      few = omega (arith, d.few, room ns b.lo b.hi from (a - 1) rest size lowest least f d.each here w (rest % slice_index ns (a - 1)) i);
      high = omega (arith, d.few, room ns b.lo b.hi from (a - 1) rest size lowest least f d.each here w (slice_index b.hi (a - 1)) (f.under (a - 1) here));
      low = lowest-short ns b.lo b.hi from (a - 1) rest size lowest least f d.each here w;
      inside = least-short ns b.lo b.hi from (a - 1) rest size lowest least f d.each here w;
      lowest_fits = omega (arith, d.few, lowest-fits ns b.lo b.hi from (a - 1) rest size lowest least f d.each here w);
      size_fits = omega (arith, d.few, size-fits ns b.lo b.hi from (a - 1) rest size lowest least f d.each here w);
      on = walk-on ns b.lo b.hi from (a - 1) rest size lowest least f d.each here w;
    }

-- a cell of the box lies between its corners, and the other way round
pub between : {K : ℕ} (ns : List ℕ) (b : CellBox K) (cell : List ℕ) → HasCorners ns b → IsCell ns cell → InCellBox b cell → Lies ns b.lo b.hi cell
between ns b cell c is i = record {
  count = is.count;
  above = λ a p. (i.within a (omega (arith, p, is.count))).0;
  below = λ a p. (i.within a (omega (arith, p, is.count))).1;
}

pub in-box : {K : ℕ} (ns : List ℕ) (b : CellBox K) (cell : List ℕ) → HasCorners ns b → Lies ns b.lo b.hi cell → InCellBox b cell
in-box ns b cell c l = record { count = l.count ∙ sym c.low.count; within = λ a p. (l.above a (omega (arith, p, l.count)), l.below a (omega (arith, p, l.count))) }

-- when all have been gone through, the least index is found
pub walked-all : {K : ℕ} (ns : List ℕ) (b : CellBox K) (from rest size lowest : ℕ) (o : Option ℕ) → HasCorners ns b → IsUpright b → from < product ns → Walked ns b.lo b.hi from 0 rest size lowest o
    → MatchOption o (IsNoneOnward ns b from) (IsLeastFrom ns b from)
walked-all {K} ns b from rest size lowest o c u inside w = by o (subst (λ (x : ℕ). IsLeastOf ns b.lo b.hi x o) start w.least_is)
  where
    none-left : (rest size : ℕ) → rest * size ≤ from → size ≡ product ns → rest * size ≡ 0
    none-left zero size p e = omega arith
    none-left (suc rest) size p e = absurd (omega (arith, p, e, inside, add-mul rest 1 size))

    start : from - rest * size ≡ from
    start = omega (arith, none-left rest size w.low w.size_is)

    lies-at : (other : ℕ) → (h : HasIndex ns b other) → Lies ns b.lo b.hi h.cell
    lies-at other h = between ns b h.cell c h.is_cell h.inside

    by : (o : Option ℕ) → IsLeastOf ns b.lo b.hi from o → MatchOption o (IsNoneOnward ns b from) (IsLeastFrom ns b from)
    by None m = λ other le h. m h.cell (lies-at other h) (omega (arith, le, h.index_is))
    by (Some x) m = record {
      from_on = m.from_on;
      there = record { cell = m.cell; is_cell = lies-cell ns b.lo b.hi m.cell (corners ns b c u) m.lies; inside = in-box ns b m.cell c m.lies; index_is = m.index_is };
      least = λ other le h. omega (arith, m.least h.cell (lies-at other h) (omega (arith, le, h.index_is)), h.index_is);
    }

-- a box with a cell stands upright
pub upright-where : {K : ℕ} (ns : List ℕ) (b : CellBox K) (part : ℕ) → HoldsCell ns b part → IsUpright b
upright-where ns b part h a p =
    let at = h.lies.inside.within a (omega (arith, p, h.lies.inside.count)) in
    omega (arith, at.0, at.1)

-- the least index from the begin of a part on tells whether the part holds a cell of the box
pub held : {K : ℕ} (ns : List ℕ) (b : CellBox K) (part at : ℕ) → IsLeastFrom ns b (1000 * part) at → at / 1000 ≡ part → HoldsCell ns b part
held ns b part at l e = record { cell = l.there.cell; lies = record { is_cell = l.there.is_cell; inside = l.there.inside; on_part = ap (λ x. x / 1000) l.there.index_is ∙ e } }

pub held-index : {K : ℕ} (ns : List ℕ) (b : CellBox K) (part : ℕ) → (h : HoldsCell ns b part) → HasIndex ns b (cell_index ns h.cell)
held-index ns b part h = record { cell = h.cell; is_cell = h.lies.is_cell; inside = h.lies.inside; index_is = refl }

pub holds-at : {K : ℕ} (ns : List ℕ) (b : CellBox K) (part at : ℕ) → IsLeastFrom ns b (1000 * part) at → HoldsCell ns b part → at / 1000 ≡ part
holds-at ns b part at l h =
    let least = l.least (cell_index ns h.cell) (omega (arith, h.lies.on_part)) (held-index ns b part h) in
    omega (arith, least, l.from_on, h.lies.on_part)

pub holds-none : {K : ℕ} (ns : List ℕ) (b : CellBox K) (part : ℕ) → IsNoneOnward ns b (1000 * part) → HoldsCell ns b part → ⊥
holds-none ns b part none h = none (cell_index ns h.cell) (omega (arith, h.lies.on_part)) (held-index ns b part h)
