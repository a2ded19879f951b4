-- Cells have indices: each index has one cell.
use Rattle.std.proofs.Common.{◌≡◌, ◌<◌, ◌≤◌, ◌+◌, ◌*◌, ◌/◌, ◌%◌, ℕ, zero, suc, List, [], ◌∷◌, ◌++◌, length, slice_index, map, flat_map, fold, zip, slice_get, Some, option_map, refl, sym, ap, ◌∙◌, subst, arith}
use Rattle.std.specs.List.{range_with_len}
use Rattle.std.proofs.Math.Nat.{add-mul, mul_assoc, mul-le-mul_right, div-lt_iff_lt-mul}
use Rattle.std.proofs.lemmas.Nat.{div-add-mod', mod_below}
use Rattle.std.proofs.lemmas.Option.{none-some, same_Some, slice_get-map, slice_get_within}
use Rattle.std.proofs.lemmas.List.{length-map, length-append}
use Rattle.grid_model.specs.Lists.{below, choices, product}
use Rattle.grid_model.specs.Cells.{cell_index}
use Rattle.grid_model.specs.ScaleLaws.{IsCell}
use Rattle.grid_model.proofs.Choosing.{map-some}

module _ {X : Type 0} where
  in-front : (xs ys : List X) (i : ℕ) → i < length xs → slice_get (xs ++ ys) i ≡ slice_get xs i
  in-front [] ys i p = absurd (omega (arith, p))
  in-front (x ∷ xs) ys zero p = refl
  in-front (x ∷ xs) ys (suc i) p = in-front xs ys i (omega (arith, p))

  behind : (xs ys : List X) (i j : ℕ) → i ≡ length xs + j → slice_get (xs ++ ys) i ≡ slice_get ys j
  behind [] ys i j e = ap (slice_get ys) (omega (arith, e))
  behind (x ∷ xs) ys zero j e = absurd (omega (arith, e))
  behind (x ∷ xs) ys (suc i) j e = behind xs ys i j (omega (arith, e))

  -- lists of one length, one behind the other
  module _ (f : ℕ → List X) (m : ℕ) (each : (x : ℕ) → length (f x) ≡ m) where
    length-blocks : (a n : ℕ) → length (flat_map f (range_with_len a n)) ≡ n * m
    length-blocks a zero = omega arith
    length-blocks a (suc n) = length-append (f a) (flat_map f (range_with_len (a + 1) n)) ∙ omega (arith, each a, length-blocks (a + 1) n, add-mul n 1 m)

    in-block : (a n c j : ℕ) → c < n → j < m → slice_get (flat_map f (range_with_len a n)) (c * m + j) ≡ slice_get (f (a + c)) j
    in-block a zero c j p q = absurd (omega (arith, p))
    in-block a (suc n) zero j p q =
        ap (slice_get (flat_map f (range_with_len a (suc n)))) (omega arith)
        ∙ in-front (f a) (flat_map f (range_with_len (a + 1) n)) j (omega (arith, each a, q))
        ∙ ap (λ x. slice_get (f x) j) (omega arith)
    in-block a (suc n) (suc c) j p q =
        behind (f a) (flat_map f (range_with_len (a + 1) n)) (suc c * m + j) (c * m + j) (omega (arith, each a, add-mul c 1 m))
        ∙ in-block (a + 1) n c j (omega (arith, p)) q
        ∙ ap (λ x. slice_get (f x) j) (omega arith)

    in-block-of : (n c j : ℕ) → c < n → j < m → slice_get (flat_map f (below n)) (c * m + j) ≡ slice_get (f c) j
    in-block-of n c j p q = in-block 0 n c j p q ∙ ap (λ x. slice_get (f x) j) (omega arith)

-- the rest of a cell, behind its interval of the first attribute
abbrev onto : List (List ℕ) → ℕ → List (List ℕ)
onto rest x = map (λ cell. x ∷ cell) rest

onto-length : (rest : List (List ℕ)) (m : ℕ) → length rest ≡ m → (x : ℕ) → length (onto rest x) ≡ m
onto-length rest m e x = length-map rest (λ cell. x ∷ cell) ∙ e

-- there are as many cells as the product of the numbers of intervals
pub cells-counted : (ns : List ℕ) → length (choices (map below ns)) ≡ product ns
cells-counted [] = refl
cells-counted (n ∷ ns) = length-blocks (onto (choices (map below ns))) (product ns) (onto-length (choices (map below ns)) (product ns) (cells-counted ns)) 0 n

onward : (a n c P d w v : ℕ) → w ≡ (a * n + c) * P + d → v ≡ (0 * n + c) * P + d → w ≡ a * (n * P) + v
onward a n c P d w v p q = omega (arith, p, q, add-mul (a * n) c P, mul_assoc a n P, add-mul (0 * n) c P, mul_assoc 0 n P)

-- an index that begins as a number begins with that number of whole rounds
begun : (a : ℕ) (ns cell : List ℕ) → length cell ≡ length ns → fold (λ at p. at * p.0 + p.1) a (zip ns cell) ≡ a * product ns + cell_index ns cell
begun a [] [] l = omega arith
begun a [] (c ∷ cell) l = absurd (omega (arith, l))
begun a (n ∷ ns) [] l = absurd (omega (arith, l))
begun a (n ∷ ns) (c ∷ cell) l =
    onward a n c (product ns) (cell_index ns cell) (fold (λ at p. at * p.0 + p.1) a (zip (n ∷ ns) (c ∷ cell))) (cell_index (n ∷ ns) (c ∷ cell))
    (begun (a * n + c) ns cell (omega (arith, l))) (begun (0 * n + c) ns cell (omega (arith, l)))

-- the index of a cell, by its first interval and the others
pub cell_index-cons : (n c : ℕ) (ns cell : List ℕ) → length cell ≡ length ns → cell_index (n ∷ ns) (c ∷ cell) ≡ c * product ns + cell_index ns cell
cell_index-cons n c ns cell l = begun (0 * n + c) ns cell l ∙ ap (λ x. x * product ns + cell_index ns cell) (omega arith)

rest-is-cell : (n c : ℕ) (ns cell : List ℕ) → IsCell (n ∷ ns) (c ∷ cell) → IsCell ns cell
rest-is-cell n c ns cell h = record { count = omega (arith, h.count); each = λ a p. h.each (suc a) (omega (arith, p)) }

each-on : (n c : ℕ) (ns cell : List ℕ) → c < n → IsCell ns cell → (a : ℕ) → a < suc (length ns) → slice_index (c ∷ cell) a < slice_index (n ∷ ns) a
each-on n c ns cell p h zero q = p
each-on n c ns cell p h (suc a) q = h.each a (omega (arith, q))

-- a cell with an interval of one more attribute in front is a cell
pub cell-on : (n c : ℕ) (ns cell : List ℕ) → c < n → IsCell ns cell → IsCell (n ∷ ns) (c ∷ cell)
cell-on n c ns cell p h = record { count = omega (arith, h.count); each = each-on n c ns cell p h }

-- the cell at an index is the one whose index it is
pub cell-there : (ns cell : List ℕ) → IsCell ns cell → slice_get (choices (map below ns)) (cell_index ns cell) ≡ Some cell
cell-there [] [] h = refl
cell-there [] (c ∷ cell) h = absurd (omega (arith, h.count))
cell-there (n ∷ ns) [] h = absurd (omega (arith, h.count))
cell-there (n ∷ ns) (c ∷ cell) h =
    let rest = choices (map below ns) in
    let there : slice_get rest (cell_index ns cell) ≡ Some cell = cell-there ns cell (rest-is-cell n c ns cell h) in
    let inside : cell_index ns cell < product ns = omega (arith, slice_get_within rest (cell_index ns cell) cell there, cells-counted ns) in
    ap (slice_get (choices (map below (n ∷ ns)))) (cell_index-cons n c ns cell (omega (arith, h.count)))
    ∙ in-block-of (onto rest) (product ns) (onto-length rest (product ns) (cells-counted ns)) n c (cell_index ns cell) (h.each 0 (omega arith)) inside
    ∙ slice_get-map (λ cell. c ∷ cell) rest (cell_index ns cell)
    ∙ ap (option_map (λ cell. c ∷ cell)) there

positive : (i n P : ℕ) → i < n * P → 0 < P
positive i n zero p = absurd (omega (arith, p))
positive i n (suc P) p = omega arith

-- each index below the number of cells is that of its cell
pub index-there : (ns : List ℕ) (i : ℕ) (cell : List ℕ) → slice_get (choices (map below ns)) i ≡ Some cell → IsCell ns cell × (cell_index ns cell ≡ i)
index-there [] zero cell e = subst (λ (cell : List ℕ). IsCell [] cell × (cell_index [] cell ≡ 0)) (same_Some [] cell e) (record { count = refl; each = λ a p. absurd (omega (arith, p)) }, refl)
index-there [] (suc i) cell e = absurd (none-some cell e)
index-there (n ∷ ns) i cell e =
    let rest = choices (map below ns) in
    let P = product ns in
    let each = onto-length rest P (cells-counted ns) in
    let within : i < n * P = omega (arith, slice_get_within (choices (map below (n ∷ ns))) i cell e, cells-counted (n ∷ ns)) in
    let some : 0 < P = positive i n P within in
    let c = i / P in
    let j = i % P in
    let low : c < n = (div-lt_iff_lt-mul {x = i} {y = n} some).1 within in
    let short : j < P = mod_below i P some in
    let whole : c * P + j ≡ i = div-add-mod' i P in
    let found : slice_get (onto rest c) j ≡ Some cell = sym (in-block-of (onto rest) P each n c j low short) ∙ ap (slice_get (choices (map below (n ∷ ns)))) whole ∙ e in
    let tail : (cs : List ℕ) × (slice_get rest j ≡ Some cs) × ((c ∷ cs) ≡ cell) = map-some (λ cs. c ∷ cs) (slice_get rest j) cell (sym (slice_get-map (λ cs. c ∷ cs) rest j) ∙ found) in
    let further : IsCell ns tail.0 × (cell_index ns tail.0 ≡ j) = index-there ns j tail.0 tail.1 in
    subst (λ (cell : List ℕ). IsCell (n ∷ ns) cell × (cell_index (n ∷ ns) cell ≡ i)) tail.2 (
      cell-on n c ns tail.0 low further.0,
      cell_index-cons n c ns tail.0 further.0.count ∙ ap (λ x. c * P + x) further.1 ∙ whole,
    )

-- a cell's index is below the number of cells
pub cell_index-below : (ns cell : List ℕ) → IsCell ns cell → cell_index ns cell < product ns
cell_index-below ns cell h = omega (arith, slice_get_within (choices (map below ns)) (cell_index ns cell) cell (cell-there ns cell h), cells-counted ns)

-- no two cells have one index
pub one-cell : (ns c d : List ℕ) → IsCell ns c → IsCell ns d → cell_index ns c ≡ cell_index ns d → c ≡ d
one-cell ns c d h g e = same_Some c d (sym (cell-there ns c h) ∙ ap (slice_get (choices (map below ns))) e ∙ cell-there ns d g)

-- a cell with no lower interval has no lower index
pub cell_index-grows : (ns xs ys : List ℕ) → length xs ≡ length ns → length ys ≡ length ns → ((b : ℕ) → b < length ns → slice_index xs b ≤ slice_index ys b) → cell_index ns xs ≤ cell_index ns ys
cell_index-grows [] xs ys p q h = omega arith
cell_index-grows (n ∷ ns) [] ys p q h = absurd (omega (arith, p))
cell_index-grows (n ∷ ns) (x ∷ xs) [] p q h = absurd (omega (arith, q))
cell_index-grows (n ∷ ns) (x ∷ xs) (y ∷ ys) p q h = omega (
  arith,
  cell_index-cons n x ns xs (omega (arith, p)),
  cell_index-cons n y ns ys (omega (arith, q)),
  mul-le-mul_right (product ns) (h zero (omega arith)),
  cell_index-grows ns xs ys (omega (arith, p)) (omega (arith, q)) (λ b r. h (suc b) (omega (arith, r))),
)
