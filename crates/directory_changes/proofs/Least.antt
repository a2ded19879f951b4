-- The least index of a cell between two corners, with one attribute more.
use Rattle.std.proofs.Common.{◌≡◌, ◌<◌, ◌≤◌, ◌+◌, ◌*◌, ◌⊎◌, inl, inr, ℕ, zero, suc, Bool, true, false, cond, List, [], ◌∷◌, length, slice_index, nat_lt, Option, Some, None, refl, ap, ◌∙◌, arith, ltb-true, ltb-false}
use Rattle.std.specs.Prelude.{MatchOption}
use Rattle.std.proofs.Math.Nat.{mul-le-mul_right, add-mul}
use Rattle.std.proofs.lemmas.Bool.{cases_order}
use Rattle.grid_model.specs.Lists.{product}
use Rattle.grid_model.specs.Cells.{cell_index}
use Rattle.grid_model.specs.ScaleLaws.{IsCell}
use Rattle.grid_model.proofs.Indices.{cell_index-cons, cell_index-below, cell_index-grows}
use Rattle.directory_changes.specs.Indices.{least_with, onward_with}

-- two corners of a directory, the low one nowhere above the high one
pub record AreCorners (ns lo hi : List ℕ) : Type 0 where
  pub lows : length lo ≡ length ns
  pub highs : length hi ≡ length ns
  pub upright : (a : ℕ) → a < length ns → slice_index lo a ≤ slice_index hi a
  pub under : (a : ℕ) → a < length ns → slice_index hi a < slice_index ns a

-- a cell lies between two corners
pub record Lies (ns lo hi cell : List ℕ) : Type 0 where
  pub count : length cell ≡ length ns
  pub above : (a : ℕ) → a < length ns → slice_index lo a ≤ slice_index cell a
  pub below : (a : ℕ) → a < length ns → slice_index cell a ≤ slice_index hi a

-- the low corner does
lowest : (ns lo hi : List ℕ) → AreCorners ns lo hi → Lies ns lo hi lo
lowest ns lo hi f = record { count = f.lows; above = λ a p. omega arith; below = f.upright }

-- a cell between corners is one of the directory
pub lies-cell : (ns lo hi cell : List ℕ) → AreCorners ns lo hi → Lies ns lo hi cell → IsCell ns cell
lies-cell ns lo hi cell f l = record { count = l.count; each = λ a p. omega (arith, l.below a p, f.under a p) }

rest-corners : (n l h : ℕ) (ns lo hi : List ℕ) → AreCorners (n ∷ ns) (l ∷ lo) (h ∷ hi) → AreCorners ns lo hi
rest-corners n l h ns lo hi f = record {
  lows = omega (arith, f.lows);
  highs = omega (arith, f.highs);
  upright = λ a p. f.upright (suc a) (omega (arith, p));
  under = λ a p. f.under (suc a) (omega (arith, p));
}

pub rest-lies : (n l h c : ℕ) (ns lo hi cell : List ℕ) → Lies (n ∷ ns) (l ∷ lo) (h ∷ hi) (c ∷ cell) → Lies ns lo hi cell
rest-lies n l h c ns lo hi cell f = record {
  count = omega (arith, f.count);
  above = λ a p. f.above (suc a) (omega (arith, p));
  below = λ a p. f.below (suc a) (omega (arith, p));
}

ordered : (m x y : ℕ) (xs ys : List ℕ) → x ≤ y → ((b : ℕ) → b < m → slice_index xs b ≤ slice_index ys b) → (b : ℕ) → b < suc m → slice_index (x ∷ xs) b ≤ slice_index (y ∷ ys) b
ordered m x y xs ys p h zero q = p
ordered m x y xs ys p h (suc b) q = h b (omega (arith, q))

pub with-first : (n l h c : ℕ) (ns lo hi cell : List ℕ) → l ≤ c → c ≤ h → Lies ns lo hi cell → Lies (n ∷ ns) (l ∷ lo) (h ∷ hi) (c ∷ cell)
with-first n l h c ns lo hi cell p q f = record {
  count = ap suc f.count;
  above = ordered (length ns) l c lo cell p f.above;
  below = ordered (length ns) c h cell hi q f.below;
}

-- an index is the least from another one on of a cell between two corners
pub record IsLeastAt (ns lo hi : List ℕ) (from at : ℕ) : Type 0 where
  pub cell : List ℕ
  pub lies : Lies ns lo hi cell
  pub index_is : cell_index ns cell ≡ at
  pub from_on : from ≤ at
  pub least : (other : List ℕ) → Lies ns lo hi other → from ≤ cell_index ns other → at ≤ cell_index ns other

-- what is the least index of a cell between two corners, if there is one
abbrev pub IsLeastOf : List ℕ → List ℕ → List ℕ → ℕ → Option ℕ → Type 0
IsLeastOf ns lo hi from o = MatchOption o ((other : List ℕ) → Lies ns lo hi other → from ≤ cell_index ns other → ⊥) (IsLeastAt ns lo hi from)

-- a whole round further
round-up : (c e P : ℕ) → c < e → c * P + P ≤ e * P
round-up c e P p = omega (arith, mul-le-mul_right P (next c e p), add-mul c 1 P)
  where
    next : (c e : ℕ) → c < e → c + 1 ≤ e
    next c e p = omega (arith, p)

-- without attributes there is the one cell of index 0
pub least-none : IsLeastOf [] [] [] 0 (Some 0)
least-none = record {
  cell = [];
  lies = record { count = refl; above = λ a p. absurd (omega (arith, p)); below = λ a p. absurd (omega (arith, p)) };
  index_is = refl;
  from_on = omega arith;
  least = λ other l le. omega arith;
}

module _ (n l h i : ℕ) (ns lo hi : List ℕ) (r : ℕ) (f : AreCorners (n ∷ ns) (l ∷ lo) (h ∷ hi)) (short : r < product ns) where
  rest : AreCorners ns lo hi
  rest = rest-corners n l h ns lo hi f

  -- the first interval of a cell, and the index of the others
  record Taken (other : List ℕ) : Type 0 where
    c : ℕ
    cs : List ℕ
    is : other ≡ c ∷ cs
    lies : Lies ns lo hi cs
    whole : cell_index (n ∷ ns) other ≡ c * product ns + cell_index ns cs
    few : cell_index ns cs < product ns
    least : cell_index ns lo ≤ cell_index ns cs
    above : l ≤ c
    below : c ≤ h

  taken : (other : List ℕ) → Lies (n ∷ ns) (l ∷ lo) (h ∷ hi) other → Taken other
  taken [] k = absurd (omega (arith, k.count))
  taken (c ∷ cs) k =
      let t : Lies ns lo hi cs = rest-lies n l h c ns lo hi cs k in
      record {
        c = c;
        cs = cs;
        is = refl;
        lies = t;
        whole = cell_index-cons n c ns cs t.count;
        few = cell_index-below ns cs (lies-cell ns lo hi cs rest t);
        least = cell_index-grows ns lo cs rest.lows t.count t.above;
        above = k.above zero (omega arith);
        below = k.below zero (omega arith);
      }

  -- the lowest cell in an interval is the least, where no cell before the interval counts
  lowest-in : (d : ℕ) → l ≤ d → d ≤ h → i * product ns + r ≤ d * product ns + cell_index ns lo
      → ((other : List ℕ) → (t : Taken other) → i * product ns + r ≤ cell_index (n ∷ ns) other → d ≤ t.c) → IsLeastAt (n ∷ ns) (l ∷ lo) (h ∷ hi) (i * product ns + r) (d * product ns + cell_index ns lo)
  lowest-in d p q on none = record {
    cell = d ∷ lo;
    lies = with-first n l h d ns lo hi lo p q (lowest ns lo hi rest);
    index_is = cell_index-cons n d ns lo rest.lows;
    from_on = on;
    least = λ other k le.
        let t = taken other k in
        omega (arith, t.whole, t.least, mul-le-mul_right (product ns) (none other t le));
  }

  below-low : i < l → IsLeastAt (n ∷ ns) (l ∷ lo) (h ∷ hi) (i * product ns + r) (l * product ns + cell_index ns lo)
  below-low p = lowest-in l (omega arith) (f.upright zero (omega arith)) (omega (arith, round-up i l (product ns) p, short)) (λ other t le. t.above)

  above-high : h < i → (other : List ℕ) → Lies (n ∷ ns) (l ∷ lo) (h ∷ hi) other → i * product ns + r ≤ cell_index (n ∷ ns) other → ⊥
  above-high p other k le =
      let t = taken other k in
      let under : t.c < i = omega (arith, p, t.below) in
      absurd (omega (arith, le, t.whole, t.few, round-up t.c i (product ns) under))

  -- a cell from the start on has no lower first interval; in the same one its rest is from the start's rest on
  same-or-above : (other : List ℕ) (t : Taken other) → i * product ns + r ≤ cell_index (n ∷ ns) other → ((t.c ≡ i) × (r ≤ cell_index ns t.cs)) ⊎ (i < t.c)
  same-or-above other t le = by (cases_order t.c i)
    where
      by : (t.c ≡ i) ⊎ ((t.c < i) ⊎ (i < t.c)) → ((t.c ≡ i) × (r ≤ cell_index ns t.cs)) ⊎ (i < t.c)
      by (inl e) = inl (e, (let same : t.c * product ns ≡ i * product ns = ap (λ x. x * product ns) e in omega (arith, le, t.whole, same)))
      by (inr (inl p)) = absurd (omega (arith, le, t.whole, t.few, round-up t.c i (product ns) p))
      by (inr (inr p)) = inr p

  with-rest : (x : ℕ) → l ≤ i → i ≤ h → IsLeastAt ns lo hi r x → IsLeastAt (n ∷ ns) (l ∷ lo) (h ∷ hi) (i * product ns + r) (i * product ns + x)
  with-rest x p q m = record {
    cell = i ∷ m.cell;
    lies = with-first n l h i ns lo hi m.cell p q m.lies;
    index_is = cell_index-cons n i ns m.cell m.lies.count ∙ ap (λ y. i * product ns + y) m.index_is;
    from_on = omega (arith, m.from_on);
    least = λ other k le. let t = taken other k in by other t (same-or-above other t le);
  }
    where
      few : x < product ns
      few = omega (arith, m.index_is, cell_index-below ns m.cell (lies-cell ns lo hi m.cell rest m.lies))

      by : (other : List ℕ) (t : Taken other) → ((t.c ≡ i) × (r ≤ cell_index ns t.cs)) ⊎ (i < t.c) → i * product ns + x ≤ cell_index (n ∷ ns) other
      by other t (inl e) =
          let same : t.c * product ns ≡ i * product ns = ap (λ y. y * product ns) e.0 in
          omega (arith, t.whole, same, m.least t.cs t.lies e.1)
      by other t (inr p) = omega (arith, t.whole, few, round-up i t.c (product ns) p)

  in-next : l ≤ i → i < h → ((other : List ℕ) → Lies ns lo hi other → r ≤ cell_index ns other → ⊥) → IsLeastAt (n ∷ ns) (l ∷ lo) (h ∷ hi) (i * product ns + r) ((i + 1) * product ns + cell_index ns lo)
  in-next p q none = lowest-in (i + 1) (omega (arith, p)) (omega (arith, q)) (omega (arith, short, add-mul i 1 (product ns))) (λ other t le. by other t (same-or-above other t le))
    where
      by : (other : List ℕ) (t : Taken other) → ((t.c ≡ i) × (r ≤ cell_index ns t.cs)) ⊎ (i < t.c) → i + 1 ≤ t.c
      by other t (inl e) = absurd (none t.cs t.lies e.1)
      by other t (inr p) = omega (arith, p)

  no-next : h ≤ i → ((other : List ℕ) → Lies ns lo hi other → r ≤ cell_index ns other → ⊥) → (other : List ℕ) → Lies (n ∷ ns) (l ∷ lo) (h ∷ hi) other → i * product ns + r ≤ cell_index (n ∷ ns) other → ⊥
  no-next p none other k le = let t = taken other k in by t (same-or-above other t le)
    where
      by : (t : Taken other) → ((t.c ≡ i) × (r ≤ cell_index ns t.cs)) ⊎ (i < t.c) → ⊥
      by t (inl e) = none t.cs t.lies e.1
      by t (inr q) = absurd (omega (arith, p, q, t.below))

  -- the least index with the first attribute
  pub least-more : (o : Option ℕ) → IsLeastOf ns lo hi r o → IsLeastOf (n ∷ ns) (l ∷ lo) (h ∷ hi) (i * product ns + r) (least_with i l h (product ns) (cell_index ns lo) o)
  least-more o m = by (nat_lt i l) refl
    where
      last : (s : Bool) → nat_lt i h ≡ s → l ≤ i → ((other : List ℕ) → Lies ns lo hi other → r ≤ cell_index ns other → ⊥) → IsLeastOf (n ∷ ns) (l ∷ lo) (h ∷ hi) (i * product ns + r) (cond s (Some ((i + 1) * product ns + cell_index ns lo)) None)
      last true e p none = in-next p (ltb-true i h e) none
      last false e p none = no-next (ltb-false i h e) none

      onward : (o : Option ℕ) → IsLeastOf ns lo hi r o → l ≤ i → i ≤ h → IsLeastOf (n ∷ ns) (l ∷ lo) (h ∷ hi) (i * product ns + r) (onward_with i h (product ns) (cell_index ns lo) o)
      onward None m p q = last (nat_lt i h) refl p m
      onward (Some x) m p q = with-rest x p q m

      high : (s : Bool) → nat_lt h i ≡ s → l ≤ i → IsLeastOf (n ∷ ns) (l ∷ lo) (h ∷ hi) (i * product ns + r) (cond s None (onward_with i h (product ns) (cell_index ns lo) o))
      high true e p = above-high (ltb-true h i e)
      high false e p = onward o m p (ltb-false h i e)

      by : (s : Bool) → nat_lt i l ≡ s → IsLeastOf (n ∷ ns) (l ∷ lo) (h ∷ hi) (i * product ns + r) (cond s (Some (l * product ns + cell_index ns lo)) (cond (nat_lt h i) None (onward_with i h (product ns) (cell_index ns lo) o)))
      by true e = below-low (ltb-true i l e)
      by false e = high (nat_lt h i) refl (ltb-false i l e)
