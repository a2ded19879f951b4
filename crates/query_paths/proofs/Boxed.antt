-- The cells of a box as a list, and the parts that hold one of them.
use Rattle.std.proofs.Common.{◌≡◌, ◌<◌, ◌≤◌, ◌+◌, ◌-◌, ◌==◌, ◌⊎◌, inl, inr, ℕ, zero, suc, Bool, true, true≢false, List, [], ◌∷◌, length, get_or, map, slice_index, IsTrue, Contains, refl, sym, ap, subst, arith, eqb-true, eq-eqb}
use Rattle.std.proofs.lemmas.Bool.{or_cases}
use Rattle.std.proofs.lemmas.List.Folds.{list_any_at}
use Rattle.std.specs.List.{list_any}
use Rattle.grid_types.specs.declared.region.Region.{Region}
use Rattle.grid_types.specs.Lists.{zip_with}
use Rattle.grid_types.specs.Regions.{Within}
use Rattle.grid_model.specs.Lists.{below, from_to, choices, is_among, AreDistinct}
use Rattle.grid_model.specs.Cells.{dims, parts, part_of, cells_of, parts_holding}
use Rattle.grid_model.specs.ScaleLaws.{IsCell}
use Rattle.grid_model.proofs.Counts.{filter-distinct, range-distinct}
use Rattle.grid_model.proofs.Members.{contains-first, contains-later, contains-split, contains-none, contains-map, contains-from-map, contains-flat, contains-from-flat, contains-range, contains-from-range, contains-filter, contains-from-filter, among-from-contains, contains-among}
use Rattle.query_paths.proofs.Judged.{part-inside}

-- a list that has an interval between the bounds of each attribute is among the choices
pub choices-to : (lo hi cell : List ℕ) → length lo ≡ length hi → length cell ≡ length lo → Within lo hi cell → Contains (choices (zip_with from_to lo hi)) cell
choices-to [] hi [] p q w = contains-first [] []
choices-to [] hi (c ∷ cell) p q w = absurd (omega (arith, q))
choices-to (l ∷ lo) [] cell p q w = absurd (omega (arith, p))
choices-to (l ∷ lo) (h ∷ hi) [] p q w = absurd (omega (arith, q))
choices-to (l ∷ lo) (h ∷ hi) (c ∷ cell) p q w =
    let here = w zero (omega arith) in
    contains-flat (λ i. map (λ rest. i ∷ rest) (choices (zip_with from_to lo hi))) (from_to l h) c (c ∷ cell)
    (contains-range l (h + 1 - l) c here.0 (omega (arith, here.0, here.1)))
    (contains-map (λ rest. c ∷ rest) (choices (zip_with from_to lo hi)) cell (choices-to lo hi cell (omega (arith, p)) (omega (arith, q)) (λ a g. w (suc a) (omega (arith, g)))))

-- a list lies between two others, attribute by attribute
pub record LiesBetween (lo hi cell : List ℕ) : Type 0 where
  pub count : length cell ≡ length lo
  pub within : Within lo hi cell

one-more : (l h c : ℕ) (lo hi cell : List ℕ) → l ≤ c → c ≤ h → LiesBetween lo hi cell → LiesBetween (l ∷ lo) (h ∷ hi) (c ∷ cell)
one-more l h c lo hi cell p q r = record { count = ap suc r.count; within = λ a g. at a g }
  where
    at : (a : ℕ) → a < suc (length cell) → (slice_index (l ∷ lo) a ≤ slice_index (c ∷ cell) a) × (slice_index (c ∷ cell) a ≤ slice_index (h ∷ hi) a)
    at zero g = (p, q)
    at (suc a) g = r.within a (omega (arith, g))

only-none : (hi cell : List ℕ) → ([] ≡ cell) ⊎ Contains [] cell → LiesBetween [] hi cell
only-none hi cell (inl e) = subst (λ (x : List ℕ). LiesBetween [] hi x) e (record { count = refl; within = λ a g. absurd (omega (arith, g)) })
only-none hi cell (inr m) = contains-none cell m

-- where some item passes, there is one that does
any-there : {X : Type 0} (p : X → Bool) (xs : List X) → list_any p xs ≡ true → (x : X) × Contains xs x × (p x ≡ true)
any-there p [] e = absurd (true≢false (sym e))
any-there {X} p (x ∷ xs) e = by (or_cases (p x) (list_any p xs) e) (any-there p xs)
  where
    by : (p x ≡ true) ⊎ (list_any p xs ≡ true) → (list_any p xs ≡ true → (y : X) × Contains xs y × (p y ≡ true)) → (y : X) × Contains (x ∷ xs) y × (p y ≡ true)
    by (inl h) rest = (x, contains-first x xs, h)
    by (inr h) rest = let r = rest h in (r.0, contains-later x xs r.0 r.1, r.2)

-- and each choice is such a list
pub choices-from : (lo hi cell : List ℕ) → length lo ≡ length hi → Contains (choices (zip_with from_to lo hi)) cell → LiesBetween lo hi cell
choices-from [] hi cell p g = only-none hi cell (contains-split [] [] cell g)
choices-from (l ∷ lo) [] cell p g = absurd (omega (arith, p))
choices-from (l ∷ lo) (h ∷ hi) cell p g =
    let flat = contains-from-flat (λ i. map (λ rest. i ∷ rest) (choices (zip_with from_to lo hi))) (from_to l h) cell g in
    let range = contains-from-range l (h + 1 - l) flat.0 flat.1 in
    let inner = contains-from-map (λ rest. flat.0 ∷ rest) (choices (zip_with from_to lo hi)) cell flat.2 in
    let rest = choices-from lo hi inner.0 (omega (arith, p)) inner.1 in
    subst (λ (x : List ℕ). LiesBetween (l ∷ lo) (h ∷ hi) x) inner.2 (one-more l h flat.0 lo hi inner.0 range.0 (omega (arith, range.0, range.1)) rest)

module _ {K : ℕ} (scales : List (List ℕ)) (r : Region K) where
  -- the part of a cell of the region holds one
  pub holds-part : (cell : List ℕ) → IsCell (dims scales) cell → Contains (cells_of scales r) cell → IsTrue (is_among (parts_holding scales r) (part_of scales cell))
  holds-part cell c g =
      let p = part_of scales cell in
      let low = part-inside scales cell c in
      among-from-contains (parts_holding scales r) p
      (contains-filter (λ q. list_any (λ d. part_of scales d == q) (cells_of scales r)) (below (parts scales)) p
      (contains-range 0 (parts scales) p (omega arith) (omega (arith, low)))
      (list_any_at (λ d. part_of scales d == p) (cells_of scales r) g.0 cell g.1 (eq-eqb (part_of scales (get_or (cells_of scales r) g.0 cell)) p (ap (part_of scales) g.2))))

  -- a part that holds a cell of the region is that of one
  pub held-cell : (p : ℕ) → IsTrue (is_among (parts_holding scales r) p) → (cell : List ℕ) × Contains (cells_of scales r) cell × (part_of scales cell ≡ p)
  held-cell p g =
      let h = contains-from-filter (λ q. list_any (λ d. part_of scales d == q) (cells_of scales r)) (below (parts scales)) p (contains-among (parts_holding scales r) p g) in
      let x = any-there (λ d. part_of scales d == p) (cells_of scales r) h.1 in
      (x.0, x.1, eqb-true (part_of scales x.0) p x.2)

  -- no part stands twice
  pub parts-distinct : AreDistinct (parts_holding scales r)
  parts-distinct = filter-distinct (λ q. list_any (λ d. part_of scales d == q) (cells_of scales r)) (below (parts scales)) (range-distinct 0 (parts scales))
