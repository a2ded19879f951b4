-- The parts of a box are those that hold a cell of it.
use Rattle.std.proofs.Common.{◌≡◌, ◌≤◌, ◌+◌, ◌-◌, ◌/◌, ◌==◌, ◌⊎◌, inl, inr, ℕ, zero, Bool, true, List, [], ◌∷◌, length, get_or, map, Contains, refl, ap, ◌∙◌, subst, arith, eqb-true, eq-eqb}
use Rattle.std.specs.List.{list_any}
use Rattle.std.proofs.lemmas.Bool.{or_cases}
use Rattle.std.proofs.lemmas.List.Folds.{list_any_at}
use Rattle.grid_types.specs.declared.cell_box.CellBox.{CellBox}
use Rattle.grid_types.specs.declared.sizes.TheConstants.{WORDS_ON_PAGE}
use Rattle.grid_types.specs.Shapes.{word_pages}
use Rattle.grid_types.specs.Lists.{zip_with}
use Rattle.grid_model.specs.Lists.{below, from_to, choices, product, is_among}
use Rattle.grid_model.specs.Cells.{cell_index}
use Rattle.grid_model.proofs.Members.{contains-first, contains-none, contains-split, contains-map, contains-from-map, contains-flat, contains-from-flat, contains-range, contains-from-range, contains-filter, among-from-contains, contains-later}
use Rattle.grid_model.proofs.Counts.{among-filter}
use Rattle.directory_pages.specs.CellBoxes.{HoldsCell}
use Rattle.directory_pages.proofs.CellBoxPatches.{part_begins}
use Rattle.directory_changes.specs.Changes.{HasCorners, holds_cell, parts_of_box}
use Rattle.directory_changes.proofs.Least.{Lies, with-first, rest-lies}
use Rattle.directory_changes.proofs.Walked.{between, in-box}

-- where some item passes, one that is there does
pub one-passes : {X : Type 0} (p : X → Bool) (xs : List X) → list_any p xs ≡ true → (x : X) × Contains xs x × (p x ≡ true)
one-passes p [] e = absurd (cc)
one-passes {X} p (x ∷ xs) e = by (one-passes p xs) (or_cases (p x) (list_any p xs) e)
  where
    by : (list_any p xs ≡ true → (y : X) × Contains xs y × (p y ≡ true)) → (p x ≡ true) ⊎ (list_any p xs ≡ true) → (y : X) × Contains (x ∷ xs) y × (p y ≡ true)
    by rest (inl h) = (x, contains-first x xs, h)
    by rest (inr h) = let found = rest h in (found.0, contains-later x xs found.0 found.1, found.2)

-- a cell that is chosen between two corners lies between them
pub chosen-lies : (ns lo hi cell : List ℕ) → length lo ≡ length ns → length hi ≡ length ns → Contains (choices (zip_with from_to lo hi)) cell → Lies ns lo hi cell
chosen-lies [] [] [] [] p q c = record { count = refl; above = λ a r. absurd (omega (arith, r)); below = λ a r. absurd (omega (arith, r)) }
chosen-lies [] [] [] (x ∷ cell) p q c = absurd (not-empty (contains-split [] [] (x ∷ cell) c))
  where
    not-empty : (([] ≡ x ∷ cell) ⊎ Contains [] (x ∷ cell)) → ⊥
    not-empty (inl e) = absurd (omega (arith, ap length e))
    not-empty (inr d) = contains-none (x ∷ cell) d
chosen-lies [] (l ∷ lo) hi cell p q c = absurd (omega (arith, p))
chosen-lies [] [] (h ∷ hi) cell p q c = absurd (omega (arith, q))
chosen-lies (n ∷ ns) [] hi cell p q c = absurd (omega (arith, p))
chosen-lies (n ∷ ns) (l ∷ lo) [] cell p q c = absurd (omega (arith, q))
chosen-lies (n ∷ ns) (l ∷ lo) (h ∷ hi) cell p q c =
    let rest = choices (zip_with from_to lo hi) in
    let first : (i : ℕ) × Contains (from_to l h) i × Contains (map (λ cs. i ∷ cs) rest) cell = contains-from-flat (λ i. map (λ cs. i ∷ cs) rest) (from_to l h) cell c in
    let behind : (cs : List ℕ) × Contains rest cs × ((first.0 ∷ cs) ≡ cell) = contains-from-map (λ cs. first.0 ∷ cs) rest cell first.2 in
    let range = contains-from-range l (h + 1 - l) first.0 first.1 in
    let later = chosen-lies ns lo hi behind.0 (omega (arith, p)) (omega (arith, q)) behind.1 in
    subst (Lies (n ∷ ns) (l ∷ lo) (h ∷ hi)) behind.2 (with-first n l h first.0 ns lo hi behind.0 range.0 (omega (arith, range.0, range.1)) later)

-- a cell that lies between two corners is chosen
pub lies-chosen : (ns lo hi cell : List ℕ) → length lo ≡ length ns → length hi ≡ length ns → Lies ns lo hi cell → Contains (choices (zip_with from_to lo hi)) cell
lies-chosen [] [] [] [] p q l = contains-first [] []
lies-chosen [] [] [] (x ∷ cell) p q l = absurd (omega (arith, l.count))
lies-chosen [] (y ∷ lo) hi cell p q l = absurd (omega (arith, p))
lies-chosen [] [] (h ∷ hi) cell p q l = absurd (omega (arith, q))
lies-chosen (n ∷ ns) [] hi cell p q l = absurd (omega (arith, p))
lies-chosen (n ∷ ns) (y ∷ lo) [] cell p q l = absurd (omega (arith, q))
lies-chosen (n ∷ ns) (y ∷ lo) (h ∷ hi) [] p q l = absurd (omega (arith, l.count))
lies-chosen (n ∷ ns) (y ∷ lo) (h ∷ hi) (x ∷ cell) p q l =
    let rest = choices (zip_with from_to lo hi) in
    let low : y ≤ x = l.above zero (omega arith) in
    let high : x ≤ h = l.below zero (omega arith) in
    contains-flat (λ i. map (λ cs. i ∷ cs) rest) (from_to y h) x (x ∷ cell)
    (contains-range y (h + 1 - y) x low (omega (arith, low, high)))
    (contains-map (λ cs. x ∷ cs) rest cell (lies-chosen ns lo hi cell (omega (arith, p)) (omega (arith, q)) (rest-lies n y h x ns lo hi cell l)))

module _ {K : ℕ} (ns : List ℕ) (b : CellBox K) (c : HasCorners ns b) where
  pub holds-tells : (p : ℕ) → holds_cell ns b p ≡ true → HoldsCell ns b p
  holds-tells p e =
      let found : (cell : List ℕ) × Contains (choices (zip_with from_to b.lo b.hi)) cell × ((cell_index ns cell / WORDS_ON_PAGE == p) ≡ true) = one-passes (λ cell. cell_index ns cell / WORDS_ON_PAGE == p) (choices (zip_with from_to b.lo b.hi)) e in
      let l = chosen-lies ns b.lo b.hi found.0 c.low.count c.high.count found.1 in
      record {
        cell = found.0;
        lies = record {
          is_cell = record { count = l.count; each = λ a q. omega (arith, l.below a q, c.high.each a q) };
          inside = in-box ns b found.0 c l;
          on_part = eqb-true (cell_index ns found.0 / WORDS_ON_PAGE) p found.2;
        };
      }

  pub holds-told : (p : ℕ) → HoldsCell ns b p → holds_cell ns b p ≡ true
  holds-told p h =
      let there = lies-chosen ns b.lo b.hi h.cell c.low.count c.high.count (between ns b h.cell c h.lies.is_cell h.lies.inside) in
      list_any_at (λ cell. cell_index ns cell / WORDS_ON_PAGE == p) (choices (zip_with from_to b.lo b.hi)) there.0 h.cell there.1
      (eq-eqb (cell_index ns (get_or (choices (zip_with from_to b.lo b.hi)) there.0 h.cell) / WORDS_ON_PAGE) p (ap (λ cell. cell_index ns cell / WORDS_ON_PAGE) there.2 ∙ h.lies.on_part))

  -- the parts of a box are those that hold a cell of it
  pub part-holds : (p : ℕ) → is_among (parts_of_box ns b) p ≡ true → HoldsCell ns b p
  part-holds p e = holds-tells p (among-filter (holds_cell ns b) (below (word_pages (product ns))) p e).1

  pub holds-part : (p : ℕ) → HoldsCell ns b p → is_among (parts_of_box ns b) p ≡ true
  holds-part p h =
      among-from-contains (parts_of_box ns b) p (contains-filter (holds_cell ns b) (below (word_pages (product ns))) p
      (contains-range 0 (word_pages (product ns)) p (omega arith) (omega (arith, part_begins ns b p h))) (holds-told p h))
