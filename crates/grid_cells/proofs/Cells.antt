-- The cell at an index, attribute by attribute.
use Rattle.std.proofs.Common.{◌≡◌, ◌<◌, ◌≤◌, ◌+◌, ◌*◌, ◌/◌, ◌%◌, ℕ, List, [], ◌∷◌, ◌++◌, length, slice_index, slice_set, take, drop, refl, sym, ap, ◌∙◌, subst, arith, append_assoc}
use Rattle.std.proofs.Math.Nat.{div-lt_iff_lt-mul}
use Rattle.std.proofs.lemmas.Nat.{div-add-mod', mod_below}
use Rattle.std.proofs.lemmas.List.{drop_more, drop_all, take_all, append-nil, length-set, take_more_set}
use Rattle.grid_model.specs.Lists.{product}
use Rattle.grid_model.specs.Cells.{cell_index}
use Rattle.grid_model.specs.ScaleLaws.{IsCell}
use Rattle.grid_model.proofs.Filled.{step}
use Rattle.grid_model.proofs.Indices.{cell_index-cons, cell-on}
use Rattle.grid_cells.proofs.Products.{Positive, rest-positive, product-rest, size-step}

-- what is left of an index is that of the other attributes: any cell of them there makes the whole cell
abbrev pub Completes : List ℕ → List ℕ → ℕ → ℕ → ℕ → Type 0
Completes ns cell a rest at = (d : List ℕ) → IsCell (drop a ns) d → cell_index (drop a ns) d ≡ rest → cell_index ns (take a cell ++ d) ≡ at

-- the interval of an attribute is one of its intervals
pub interval-below : (ns : List ℕ) (a rest size : ℕ) → a < length ns → 0 < size → size ≡ product (drop (a + 1) ns) → rest < product (drop a ns) → rest / size < slice_index ns a
interval-below ns a rest size p s e q = (div-lt_iff_lt-mul {x = rest} {y = slice_index ns a} s).1 (omega (arith, q, product-rest ns a p, ap (λ m. slice_index ns a * m) e))

-- one more attribute
pub completes-more : (ns cell : List ℕ) (a rest size at : ℕ) → a < length ns → a < length cell → 0 < size → size ≡ product (drop (a + 1) ns) → rest < product (drop a ns)
    → Completes ns cell a rest at → Completes ns (slice_set cell a (rest / size)) (a + 1) (rest % size) at
completes-more ns cell a rest size at p q s e r h d c f =
    let digit = rest / size in
    let n = slice_index ns a in
    let first = drop_more ns a 0 p in
    let there : cell_index (n ∷ drop (a + 1) ns) (digit ∷ d) ≡ rest = cell_index-cons n digit (drop (a + 1) ns) d c.count ∙ (λ i. digit * (sym e i) + f i) ∙ div-add-mod' rest size in
    let whole : cell_index ns (take a cell ++ digit ∷ d) ≡ at = h (digit ∷ d)
    (subst (λ (ms : List ℕ). IsCell ms (digit ∷ d)) (sym first) (cell-on n digit (drop (a + 1) ns) d (interval-below ns a rest size p s e r) c))
    (ap (λ ms. cell_index ms (digit ∷ d)) first ∙ there) in
    ap (λ xs. cell_index ns (xs ++ d)) (take_more_set cell a digit q) ∙ ap (cell_index ns) (append_assoc (take a cell) (digit ∷ []) d) ∙ whole

-- where nothing is left, the cell is whole
pub completed : (ns cell : List ℕ) (a rest at : ℕ) → length ns ≤ a → length cell ≤ a → rest ≡ 0 → Completes ns cell a rest at → cell_index ns cell ≡ at
completed ns cell a rest at p q e h =
    let none : drop a ns ≡ [] = drop_all a ns p in
    ap (cell_index ns) (sym (append-nil (take a cell) ∙ take_all a cell q))
    ∙ h [] (subst (λ (ms : List ℕ). IsCell ms []) (sym none) (record { count = refl; each = λ b r. absurd (omega (arith, r)) })) (ap (λ ms. cell_index ms []) none ∙ sym e)

-- the attributes below a have their intervals, and this is left of the index for the others, which have so many cells
pub record Dealt (ns cell : List ℕ) (a size rest at : ℕ) : Type 0 where
  pub count : length cell ≡ length ns
  pub whole : size ≡ product (drop a ns)
  pub below : rest < size
  pub each : (k : ℕ) → k < a → slice_index cell k < slice_index ns k
  pub completes : Completes ns cell a rest at

-- one more attribute has its interval
pub deal : (ns cell : List ℕ) (a size rest at : ℕ) → Positive ns → a < length ns → Dealt ns cell a size rest at
    → Dealt ns (slice_set cell a (rest / (size / slice_index ns a))) (a + 1) (size / slice_index ns a) (rest % (size / slice_index ns a)) at
deal ns cell a size rest at h p d =
    let smaller : size / slice_index ns a ≡ product (drop (a + 1) ns) = size-step ns size a p h d.whole in
    let some : 0 < size / slice_index ns a = omega (arith, smaller, rest-positive ns (a + 1) h) in
    let inside : a < length cell = omega (arith, p, d.count) in
    let few : rest < product (drop a ns) = omega (arith, d.below, d.whole) in
    record {
      count = length-set cell a (rest / (size / slice_index ns a)) ∙ d.count;
      whole = smaller;
      below = mod_below rest (size / slice_index ns a) some;
      each = step (λ k x. x < slice_index ns k) cell a (rest / (size / slice_index ns a)) inside d.each (interval-below ns a rest (size / slice_index ns a) p some smaller few);
      completes = completes-more ns cell a rest (size / slice_index ns a) at p inside some smaller few d.completes;
    }

-- where each attribute has its interval, it is the cell at the index
pub dealt-all : (ns cell : List ℕ) (a size rest at : ℕ) → length ns ≤ a → Dealt ns cell a size rest at → IsCell ns cell × (cell_index ns cell ≡ at)
dealt-all ns cell a size rest at p d = (
  record { count = d.count; each = λ k q. d.each k (omega (arith, p, q)) },
  completed ns cell a rest at p (omega (arith, p, d.count)) (omega (arith, d.below, d.whole, ap product (drop_all a ns p))) d.completes,
)
