-- How many cells scales make, attribute by attribute.
use Rattle.std.proofs.Common.{◌≡◌, ◌<◌, ◌≤◌, ◌+◌, ◌*◌, ◌^◌, ℕ, zero, suc, List, [], ◌∷◌, length, slice_index, drop, sym, ap, ◌∙◌, arith}
use Rattle.std.proofs.Math.Nat.{mul_assoc, mul_comm, le-mul_of_pos_right, one-le-mul, pow-le-pow_right}
use Rattle.std.proofs.lemmas.Nat.{mul-le}
use Rattle.std.proofs.lemmas.Grind.{pow_more}
use Rattle.std.proofs.lemmas.List.{drop_more}
use Rattle.grid_model.specs.Lawful.{cells_of_counts}
use Rattle.root_pages.specs.Lawful.{AreAtMost}

-- there is a cell
some_cell : (ns : List ℕ) → 1 ≤ cells_of_counts ns
some_cell [] = omega arith
some_cell (n ∷ ns) = one-le-mul {a = n + 1} (omega arith) (some_cell ns)

-- scales of at most a thousand boundaries
cells_at_most : (ns : List ℕ) → AreAtMost 1000 ns → cells_of_counts ns ≤ 1001 ^ length ns
cells_at_most [] few = omega arith
cells_at_most (n ∷ ns) few =
    let rest = mul-le (n + 1) (cells_of_counts ns) 1001 (1001 ^ length ns) (omega (arith, few zero)) (cells_at_most ns (λ a. few (suc a))) in
    let power : 1001 ^ (length ns + 1) ≡ 1001 ^ length ns * 1001 = pow_more 1001 (length ns) in
    let turned : 1001 * 1001 ^ length ns ≡ 1001 ^ length ns * 1001 = mul_comm 1001 (1001 ^ length ns) in
    let next : 1001 ^ length (n ∷ ns) ≡ 1001 ^ (length ns + 1) = ap (λ (k : ℕ). 1001 ^ k) (omega arith) in
    omega (arith, rest, power, turned, next)

-- four scales at most make fewer than 2 ^ 40 cells
pub cells_below : (ns : List ℕ) → AreAtMost 1000 ns → length ns ≤ 4 → cells_of_counts ns < 2 ^ 40
cells_below ns few four =
    let last : 1001 ^ length ns ≤ 1001 ^ 4 = pow-le-pow_right {n = 1001} (omega arith) four in
    let value : 1001 ^ 4 < 2 ^ 40 = omega arith in
    omega (arith, cells_at_most ns few, last, value)

-- one more factor keeps the whole product
pub cells_step : (ns : List ℕ) (c a : ℕ) → a < length ns → c * cells_of_counts (drop a ns) ≡ cells_of_counts ns → (c * (slice_index ns a + 1)) * cells_of_counts (drop (a + 1) ns) ≡ cells_of_counts ns
cells_step ns c a lt e =
    mul_assoc c (slice_index ns a + 1) (cells_of_counts (drop (a + 1) ns)) ∙ ap (λ (m : ℕ). c * m) (sym (ap cells_of_counts (drop_more ns a 0 lt))) ∙ e

-- a part of a product is at most the product
pub part_at_most : (ns : List ℕ) (c a whole : ℕ) → c * cells_of_counts (drop a ns) ≡ whole → c ≤ whole
part_at_most ns c a whole e = omega (arith, e, le-mul_of_pos_right {m = cells_of_counts (drop a ns)} c (some_cell (drop a ns)))
