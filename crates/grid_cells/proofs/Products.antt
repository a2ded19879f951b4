-- Products of numbers that are at least 1, and indices that are built up by attribute.
use Rattle.std.proofs.Common.{◌≡◌, ◌<◌, ◌≤◌, ◌+◌, ◌*◌, ◌/◌, ℕ, zero, suc, List, [], ◌∷◌, length, slice_index, drop, fold, zip, sym, ap, ◌∙◌, arith}
use Rattle.std.proofs.Math.Nat.{mul_assoc, le-mul_of_pos_right, one-le-mul, mul-div_cancel_left}
use Rattle.std.proofs.lemmas.List.{drop_more, drop_all}
use Rattle.grid_model.specs.Lists.{product}
use Rattle.grid_model.specs.Cells.{cell_index}
use Rattle.grid_model.specs.ScaleLaws.{IsCell}
use Rattle.grid_model.proofs.Indices.{cell_index-below}
use Rattle.grid_cells.specs.Dims.{IsDims}

-- each number is at least 1
abbrev pub Positive : List ℕ → Type 0
Positive ns = (a : ℕ) → a < length ns → 1 ≤ slice_index ns a

pub product-positive : (ns : List ℕ) → Positive ns → 1 ≤ product ns
product-positive [] h = omega arith
product-positive (n ∷ ns) h = one-le-mul (h zero (omega arith)) (product-positive ns (λ a p. h (suc a) (omega (arith, p))))

pub rest-positive : (ns : List ℕ) (k : ℕ) → Positive ns → 1 ≤ product (drop k ns)
rest-positive ns zero h = product-positive ns h
rest-positive [] (suc k) h = omega arith
rest-positive (n ∷ ns) (suc k) h = rest-positive ns k (λ a p. h (suc a) (omega (arith, p)))

-- the product of the rest, by its first number
pub product-rest : (ns : List ℕ) (a : ℕ) → a < length ns → product (drop a ns) ≡ slice_index ns a * product (drop (a + 1) ns)
product-rest ns a p = ap product (drop_more ns a 0 p)

-- one more factor keeps the whole product
pub product-step : (ns : List ℕ) (c a : ℕ) → a < length ns → c * product (drop a ns) ≡ product ns → (c * slice_index ns a) * product (drop (a + 1) ns) ≡ product ns
product-step ns c a p e = mul_assoc c (slice_index ns a) (product (drop (a + 1) ns)) ∙ ap (λ m. c * m) (sym (product-rest ns a p)) ∙ e

-- a part of a product is at most the product
pub part-few : (c r whole : ℕ) → 1 ≤ r → c * r ≡ whole → c ≤ whole
part-few c r whole p e = omega (arith, e, le-mul_of_pos_right c (part-above r p))
  where
    part-above : (r : ℕ) → 1 ≤ r → 0 < r
    part-above r p = omega (arith, p)

-- an index that is built up by attribute
abbrev pub onward : ℕ → List ℕ → List ℕ → ℕ
onward at ns cell = fold (λ at p. at * p.0 + p.1) at (zip ns cell)

-- the next attribute
pub cell_index-step : (ns cell : List ℕ) (at a : ℕ) → a < length ns → a < length cell → onward at (drop a ns) (drop a cell) ≡ cell_index ns cell → onward (at * slice_index ns a + slice_index cell a) (drop (a + 1) ns) (drop (a + 1) cell) ≡ cell_index ns cell
cell_index-step ns cell at a p q e = sym (λ i. onward at (drop_more ns a 0 p i) (drop_more cell a 0 q i)) ∙ e

-- what is built up is at most the index
pub onward-grows : (ns cell : List ℕ) (at : ℕ) → Positive ns → at ≤ onward at ns cell
onward-grows [] cell at h = omega arith
onward-grows (n ∷ ns) [] at h = omega arith
onward-grows (n ∷ ns) (c ∷ cell) at h = omega (arith, le-mul_of_pos_right at (positive n (h zero (omega arith))), onward-grows ns cell (at * n + c) (λ a p. h (suc a) (omega (arith, p))))
  where
    positive : (r : ℕ) → 1 ≤ r → 0 < r
    positive r p = omega (arith, p)

positive-rest : (ns : List ℕ) (k : ℕ) → Positive ns → Positive (drop k ns)
positive-rest ns zero h = h
positive-rest [] (suc k) h = λ a p. absurd (omega (arith, p))
positive-rest (n ∷ ns) (suc k) h = positive-rest ns k (λ a p. h (suc a) (omega (arith, p)))

-- what is built up stays below a million
pub step-fits : (ns cell : List ℕ) (at a : ℕ) → IsDims ns → IsCell ns cell → a < length ns → onward at (drop a ns) (drop a cell) ≡ cell_index ns cell → at * slice_index ns a + slice_index cell a < 1000000
step-fits ns cell at a d c p e = omega (
  arith,
  d.few,
  cell_index-below ns cell c,
  cell_index-step ns cell at a p (omega (arith, p, c.count)) e,
  onward-grows (drop (a + 1) ns) (drop (a + 1) cell) (at * slice_index ns a + slice_index cell a) (positive-rest ns (a + 1) d.each),
)

-- at the end it is the index
pub cell_index-done : (ns cell : List ℕ) (at a : ℕ) → length ns ≤ a → length cell ≤ a → onward at (drop a ns) (drop a cell) ≡ cell_index ns cell → at ≡ cell_index ns cell
cell_index-done ns cell at a p q e = sym (λ i. onward at (drop_all a ns p i) (drop_all a cell q i)) ∙ e

-- the product of the rest, without its first number
pub size-step : (ns : List ℕ) (size a : ℕ) → a < length ns → Positive ns → size ≡ product (drop a ns) → size / slice_index ns a ≡ product (drop (a + 1) ns)
size-step ns size a p h e = ap (λ m. m / slice_index ns a) (e ∙ product-rest ns a p) ∙ mul-div_cancel_left (product (drop (a + 1) ns)) (omega (arith, h a p))
