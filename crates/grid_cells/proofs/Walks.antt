-- The cell that follows another one in a box.
use Rattle.std.proofs.Common.{◌≡◌, ◌<◌, ◌≤◌, ◌+◌, ◌*◌, ◌⊎◌, inl, inr, ℕ, zero, suc, List, [], ◌∷◌, ◌++◌, length, slice_index, take, drop, sym, ap, ◌∙◌, subst, arith}
use Rattle.std.proofs.Math.Nat.{mul-le-mul_right}
use Rattle.std.proofs.lemmas.Bool.{cases_lt, cases_order}
use Rattle.grid_types.specs.declared.cell_box.CellBox.{CellBox}
use Rattle.grid_model.specs.Lists.{product}
use Rattle.grid_model.specs.Cells.{cell_index, InCellBox}
use Rattle.grid_model.specs.ScaleLaws.{IsCell}
use Rattle.grid_model.proofs.Indices.{cell_index-cons, cell_index-below, cell_index-grows}
use Rattle.grid_cells.specs.CellBoxes.{IsNextInCellBox, IsLastInCellBox}

-- a cell lies in a box of the directory
pub record Lies (ns lo hi cell : List ℕ) : Type 0 where
  pub lows : length lo ≡ length ns
  pub highs : length hi ≡ length ns
  pub count : length cell ≡ length ns
  pub above : (b : ℕ) → b < length ns → slice_index lo b ≤ slice_index cell b
  pub below : (b : ℕ) → b < length ns → slice_index cell b ≤ slice_index hi b
  pub under : (b : ℕ) → b < length ns → slice_index hi b < slice_index ns b

pub lies : {K : ℕ} (ns : List ℕ) (b : CellBox K) (cell : List ℕ) → length b.lo ≡ length ns → IsCell ns b.hi → InCellBox b cell → Lies ns b.lo b.hi cell
lies ns b cell p h i = record {
  lows = p;
  highs = h.count;
  count = i.count ∙ p;
  above = λ a q. (i.within a (omega (arith, q, p, i.count))).0;
  below = λ a q. (i.within a (omega (arith, q, p, i.count))).1;
  under = h.each;
}

in-box : {K : ℕ} (ns : List ℕ) (b : CellBox K) (cell : List ℕ) → Lies ns b.lo b.hi cell → InCellBox b cell
in-box ns b cell f = record { count = f.count ∙ sym f.lows; within = λ a p. (f.above a (omega (arith, p, f.count)), f.below a (omega (arith, p, f.count))) }

is-cell : (ns lo hi cell : List ℕ) → Lies ns lo hi cell → IsCell ns cell
is-cell ns lo hi cell f = record { count = f.count; each = λ a p. omega (arith, f.below a p, f.under a p) }

tail : (n l h c : ℕ) (ns lo hi cell : List ℕ) → Lies (n ∷ ns) (l ∷ lo) (h ∷ hi) (c ∷ cell) → Lies ns lo hi cell
tail n l h c ns lo hi cell f = record {
  lows = omega (arith, f.lows);
  highs = omega (arith, f.highs);
  count = omega (arith, f.count);
  above = λ b p. f.above (suc b) (omega (arith, p));
  below = λ b p. f.below (suc b) (omega (arith, p));
  under = λ b p. f.under (suc b) (omega (arith, p));
}

ordered : (P : ℕ → ℕ → Type 0) (m n x y : ℕ) (xs ys : List ℕ) → P x y → ((b : ℕ) → b < m → P (slice_index xs b) (slice_index ys b)) → (b : ℕ) → b < suc m → P (slice_index (x ∷ xs) b) (slice_index (y ∷ ys) b)
ordered P m n x y xs ys p h zero q = p
ordered P m n x y xs ys p h (suc b) q = h b (omega (arith, q))

cons : (n l h c : ℕ) (ns lo hi cell : List ℕ) → l ≤ c → c ≤ h → h < n → Lies ns lo hi cell → Lies (n ∷ ns) (l ∷ lo) (h ∷ hi) (c ∷ cell)
cons n l h c ns lo hi cell p q r f = record {
  lows = ap suc f.lows;
  highs = ap suc f.highs;
  count = ap suc f.count;
  above = ordered (λ x y. x ≤ y) (length ns) 0 l c lo cell p f.above;
  below = ordered (λ x y. x ≤ y) (length ns) 0 c h cell hi q f.below;
  under = ordered (λ x y. x < y) (length ns) 0 h n hi ns r f.under;
}

-- the lowest cell of a box lies in it
lowest : (ns lo hi cell : List ℕ) → Lies ns lo hi cell → Lies ns lo hi lo
lowest ns lo hi cell f = record { lows = f.lows; highs = f.highs; count = f.lows; above = λ b p. omega arith; below = λ b p. omega (arith, f.above b p, f.below b p); under = f.under }

-- the cell with its interval of attribute a one up, and the lowest intervals behind it
abbrev pub stepped : List ℕ → List ℕ → ℕ → List ℕ
stepped cell lo a = take a cell ++ (slice_index cell a + 1) ∷ drop (suc a) lo

-- it lies in the box
stays : (ns lo hi cell : List ℕ) (a : ℕ) → Lies ns lo hi cell → a < length ns → slice_index cell a < slice_index hi a → Lies ns lo hi (stepped cell lo a)
stays [] lo hi cell a f p q = absurd (omega (arith, p))
stays (n ∷ ns) [] hi cell a f p q = absurd (omega (arith, f.lows))
stays (n ∷ ns) (l ∷ lo) [] cell a f p q = absurd (omega (arith, f.highs))
stays (n ∷ ns) (l ∷ lo) (h ∷ hi) [] a f p q = absurd (omega (arith, f.count))
stays (n ∷ ns) (l ∷ lo) (h ∷ hi) (c ∷ cell) zero f p q =
    cons n l h (c + 1) ns lo hi lo (omega (arith, f.above zero (omega arith))) (omega (arith, q)) (f.under zero (omega arith)) (lowest ns lo hi cell (tail n l h c ns lo hi cell f))
stays (n ∷ ns) (l ∷ lo) (h ∷ hi) (c ∷ cell) (suc a) f p q =
    cons n l h c ns lo hi (stepped cell lo a) (f.above zero (omega arith)) (f.below zero (omega arith)) (f.under zero (omega arith)) (stays ns lo hi cell a (tail n l h c ns lo hi cell f) (omega (arith, p)) q)

-- its index is above
rises : (ns lo hi cell : List ℕ) (a : ℕ) → Lies ns lo hi cell → a < length ns → slice_index cell a < slice_index hi a → cell_index ns cell < cell_index ns (stepped cell lo a)
rises [] lo hi cell a f p q = absurd (omega (arith, p))
rises (n ∷ ns) [] hi cell a f p q = absurd (omega (arith, f.lows))
rises (n ∷ ns) (l ∷ lo) [] cell a f p q = absurd (omega (arith, f.highs))
rises (n ∷ ns) (l ∷ lo) (h ∷ hi) [] a f p q = absurd (omega (arith, f.count))
rises (n ∷ ns) (l ∷ lo) (h ∷ hi) (c ∷ cell) zero f p q =
    let g = tail n l h c ns lo hi cell f in
    omega (arith, cell_index-cons n c ns cell g.count, cell_index-cons n (c + 1) ns lo g.lows, cell_index-below ns cell (is-cell ns lo hi cell g))
rises (n ∷ ns) (l ∷ lo) (h ∷ hi) (c ∷ cell) (suc a) f p q =
    let g = tail n l h c ns lo hi cell f in
    let s = stays ns lo hi cell a g (omega (arith, p)) q in
    omega (arith, cell_index-cons n c ns cell g.count, cell_index-cons n c ns (stepped cell lo a) s.count, rises ns lo hi cell a g (omega (arith, p)) q)

-- a higher first interval is a whole round further
round-up : (c e P : ℕ) → c < e → c * P + P ≤ e * P
round-up c e P p = omega (arith, mul-le-mul_right P (next c e p))
  where
    next : (c e : ℕ) → c < e → c + 1 ≤ e
    next c e p = omega (arith, p)

-- no cell of the box lies between
nearest : (ns lo hi cell other : List ℕ) (a : ℕ) → Lies ns lo hi cell → Lies ns lo hi other → a < length ns → slice_index cell a < slice_index hi a → ((b : ℕ) → a < b → b < length ns → slice_index cell b ≡ slice_index hi b)
    → cell_index ns cell < cell_index ns other → cell_index ns (stepped cell lo a) ≤ cell_index ns other
nearest [] lo hi cell other a f k p q t r = absurd (omega (arith, p))
nearest (n ∷ ns) [] hi cell other a f k p q t r = absurd (omega (arith, f.lows))
nearest (n ∷ ns) (l ∷ lo) [] cell other a f k p q t r = absurd (omega (arith, f.highs))
nearest (n ∷ ns) (l ∷ lo) (h ∷ hi) [] other a f k p q t r = absurd (omega (arith, f.count))
nearest (n ∷ ns) (l ∷ lo) (h ∷ hi) (c ∷ cell) [] a f k p q t r = absurd (omega (arith, k.count))
nearest (n ∷ ns) (l ∷ lo) (h ∷ hi) (c ∷ cell) (e ∷ other) zero f k p q t r =
    let g = tail n l h c ns lo hi cell f in
    let m = tail n l h e ns lo hi other k in
    let here = cell_index-cons n c ns cell g.count in
    let there = cell_index-cons n e ns other m.count in
    let most : cell_index ns other ≤ cell_index ns cell = cell_index-grows ns other cell m.count g.count (λ b s. omega (arith, m.below b s, t (suc b) (omega arith) (omega (arith, s)))) in
    let least : cell_index ns lo ≤ cell_index ns other = cell_index-grows ns lo other g.lows m.count m.above in
    by here there most least (cases_lt c e)
  where
    by : cell_index (n ∷ ns) (c ∷ cell) ≡ c * product ns + cell_index ns cell → cell_index (n ∷ ns) (e ∷ other) ≡ e * product ns + cell_index ns other → cell_index ns other ≤ cell_index ns cell → cell_index ns lo ≤ cell_index ns other
        → (c < e) ⊎ (e ≤ c) → cell_index (n ∷ ns) (stepped (c ∷ cell) (l ∷ lo) zero) ≤ cell_index (n ∷ ns) (e ∷ other)
    by here there most least (inl s) = omega (arith, there, least, round-up c e (product ns) s, cell_index-cons n (c + 1) ns lo (omega (arith, f.lows)))
    by here there most least (inr s) = absurd (omega (arith, r, here, there, most, mul-le-mul_right (product ns) s))
nearest (n ∷ ns) (l ∷ lo) (h ∷ hi) (c ∷ cell) (e ∷ other) (suc a) f k p q t r =
    let g = tail n l h c ns lo hi cell f in
    let m = tail n l h e ns lo hi other k in
    let s = stays ns lo hi cell a g (omega (arith, p)) q in
    by (cell_index-cons n c ns cell g.count) (cell_index-cons n e ns other m.count) (cell_index-cons n c ns (stepped cell lo a) s.count) (cell_index-below ns (stepped cell lo a) (is-cell ns lo hi (stepped cell lo a) s)) (cell_index-below ns other (is-cell ns lo hi other m))
    (nearest ns lo hi cell other a g m (omega (arith, p)) q (λ b u v. t (suc b) (omega (arith, u)) (omega (arith, v))))
    (cases_order c e)
  where
    by : cell_index (n ∷ ns) (c ∷ cell) ≡ c * product ns + cell_index ns cell → cell_index (n ∷ ns) (e ∷ other) ≡ e * product ns + cell_index ns other → cell_index (n ∷ ns) (c ∷ stepped cell lo a) ≡ c * product ns + cell_index ns (stepped cell lo a)
        → cell_index ns (stepped cell lo a) < product ns → cell_index ns other < product ns → (cell_index ns cell < cell_index ns other → cell_index ns (stepped cell lo a) ≤ cell_index ns other)
        → (c ≡ e) ⊎ ((c < e) ⊎ (e < c)) → cell_index (n ∷ ns) (c ∷ stepped cell lo a) ≤ cell_index (n ∷ ns) (e ∷ other)
    by here there next short few rest (inl s) =
        let same : c * product ns ≡ e * product ns = ap (λ x. x * product ns) s in
        omega (arith, there, next, same, rest (omega (arith, r, here, there, same)))
    by here there next short few rest (inr (inl s)) = omega (arith, there, next, short, round-up c e (product ns) s)
    by here there next short few rest (inr (inr s)) = absurd (omega (arith, r, here, there, few, round-up e c (product ns) s))

-- the cell that is one up in the last attribute that may grow follows
pub follows : {K : ℕ} (ns : List ℕ) (b : CellBox K) (cell next : List ℕ) (a : ℕ) → length b.lo ≡ length ns → IsCell ns b.hi → InCellBox b cell → a < length ns → slice_index cell a < slice_index b.hi a
    → ((i : ℕ) → a < i → i < length ns → slice_index cell i ≡ slice_index b.hi i) → next ≡ take a cell ++ (slice_index cell a + 1) ∷ drop (a + 1) b.lo → IsNextInCellBox ns b cell next
follows ns b cell next a p h i q r t e =
    let f = lies ns b cell p h i in
    let one : suc a ≡ a + 1 = omega arith in
    let same : stepped cell b.lo a ≡ next = ap (λ n. take a cell ++ (slice_index cell a + 1) ∷ drop n b.lo) one ∙ sym e in
    subst (IsNextInCellBox ns b cell) same (record {
      inside = in-box ns b (stepped cell b.lo a) (stays ns b.lo b.hi cell a f q r);
      above = rises ns b.lo b.hi cell a f q r;
      least = λ other j s. nearest ns b.lo b.hi cell other a f (lies ns b other p h j) q r t s;
    })

-- a cell with no interval that may grow is the last
pub is-last : {K : ℕ} (ns : List ℕ) (b : CellBox K) (cell : List ℕ) → length b.lo ≡ length ns → IsCell ns b.hi → InCellBox b cell → ((i : ℕ) → i < length ns → slice_index cell i ≡ slice_index b.hi i) → IsLastInCellBox ns b cell
is-last ns b cell p h i t other j =
    let f = lies ns b cell p h i in
    let k = lies ns b other p h j in
    cell_index-grows ns other cell k.count f.count (λ a q. omega (arith, k.below a q, t a q))
