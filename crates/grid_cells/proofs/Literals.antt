-- The conditions of cells and boxes of cells as tests, which compute.
use Rattle.std.proofs.Common.{◌≡◌, ◌<◌, ◌≤◌, ℕ, zero, suc, true, true≢false, List, [], ◌∷◌, length, slice_index, nat_le, nat_lt, refl, sym, ap, arith, leb-true, ltb-true}
use Rattle.std.specs.List.{list_all}
use lib.Pointwise.{pointwise}
use Rattle.grid_types.specs.declared.cell_box.CellBox.{CellBox}
use Rattle.grid_types.proofs.Numbers.{first, second, each-at-most, as-long}
use Rattle.grid_model.specs.Lists.{product}
use Rattle.grid_model.specs.Cells.{InCellBox}
use Rattle.grid_model.specs.ScaleLaws.{IsCell}
use Rattle.grid_cells.specs.Dims.{IsDims}

positive-at : (ns : List ℕ) → list_all (nat_le 1) ns ≡ true → (a : ℕ) → a < length ns → 1 ≤ slice_index ns a
positive-at [] e a p = absurd (omega (arith, p))
positive-at (n ∷ ns) e zero p = leb-true 1 n (first (nat_le 1 n) (list_all (nat_le 1) ns) e)
positive-at (n ∷ ns) e (suc a) p = positive-at ns (second (nat_le 1 n) (list_all (nat_le 1) ns) e) a (omega (arith, p))

below-long : (xs ys : List ℕ) → pointwise nat_lt xs ys ≡ true → length xs ≡ length ys
below-long [] [] e = refl
below-long [] (y ∷ ys) e = absurd (true≢false (sym e))
below-long (x ∷ xs) [] e = absurd (true≢false (sym e))
below-long (x ∷ xs) (y ∷ ys) e = ap suc (below-long xs ys (second (nat_lt x y) (pointwise nat_lt xs ys) e))

below-at : (xs ys : List ℕ) → pointwise nat_lt xs ys ≡ true → (a : ℕ) → a < length ys → slice_index xs a < slice_index ys a
below-at [] [] e a p = absurd (omega (arith, p))
below-at [] (y ∷ ys) e a p = absurd (true≢false (sym e))
below-at (x ∷ xs) [] e a p = absurd (omega (arith, p))
below-at (x ∷ xs) (y ∷ ys) e zero p = ltb-true x y (first (nat_lt x y) (pointwise nat_lt xs ys) e)
below-at (x ∷ xs) (y ∷ ys) e (suc a) p = below-at xs ys (second (nat_lt x y) (pointwise nat_lt xs ys) e) a (omega (arith, p))

pub dims-by-test : (ns : List ℕ) → list_all (nat_le 1) ns ≡ true → nat_le (product ns) 1000000 ≡ true → IsDims ns
dims-by-test ns e f = record { each = positive-at ns e; few = leb-true (product ns) 1000000 f }

pub cell-by-test : (ns cell : List ℕ) → pointwise nat_lt cell ns ≡ true → IsCell ns cell
cell-by-test ns cell e = record { count = below-long cell ns e; each = below-at cell ns e }

pub cell_box-by-test : {K : ℕ} (b : CellBox K) (cell : List ℕ) → pointwise nat_le b.lo cell ≡ true → pointwise nat_le cell b.hi ≡ true → InCellBox b cell
cell_box-by-test b cell e f = record {
  count = sym (as-long b.lo cell e);
  within = λ a p. (each-at-most b.lo cell a e (omega (arith, p, as-long b.lo cell e)), each-at-most cell b.hi a f p);
}

pub ruleset literal = (dims-by-test, cell-by-test, cell_box-by-test)
