-- The old parts that the cells of a new part need, as the loop finds them and as they are said.
use Rattle.std.proofs.Common.{◌≡◌, ◌<◌, ◌≤◌, ◌+◌, ◌-◌, ◌*◌, ◌/◌, ◌==◌, ◌&&◌, ◌∷◌, [], ℕ, Bool, true, false, List, Contains, length, map, take, filter, get_or, slice_index, Some, refl, sym, ap, ◌∙◌, subst, arith, eqb-true, eq-eqb}
use Rattle.std.specs.Cmp.{both_ways}
use Rattle.std.proofs.lemmas.List.{get_or-take, get_or_default, length-take}
use Rattle.std.proofs.lemmas.List.Elements.{filter_agree}
use Rattle.std.proofs.lemmas.List.Folds.{list_any_at}
use Rattle.std.proofs.lemmas.Option.{slice_get-get_or}
use Rattle.grid_types.specs.declared.sizes.TheConstants.{WORDS_ON_PAGE}
use Rattle.grid_types.specs.Shapes.{word_pages}
use Rattle.grid_types.proofs.Numbers.{both, first, second}
use Rattle.grid_model.specs.Lists.{below, choices, product}
use Rattle.grid_model.specs.Cells.{cell_index, image_of}
use Rattle.grid_model.specs.ScaleLaws.{IsCell}
use Rattle.grid_model.proofs.Indices.{cells-counted, index-there}
use Rattle.directory_pages.specs.CellBoxes.{cells_on}
use Rattle.directory_changes.specs.Changes.{grown}
use Rattle.directory_changes.proofs.Among.{one-passes}
use Rattle.shadow_directory.specs.Images.{AreImages, IsNextNeeded, IsNoneNeeded, needs, parts_needed}
use Rattle.shadow_directory.specs.Reads.{comes_from, sources}
use Rattle.shadow_directory.proofs.Onward.{onward, onward-none, onward-next, onward-all}

-- an index on a part needs it
pub needs-at : (images : List ℕ) (n k q : ℕ) → n ≤ length images → k < n → slice_index images k / 1000 ≡ q → needs images n q ≡ true
needs-at images n k q few lt e =
    list_any_at (λ x. x / WORDS_ON_PAGE == q) (take n images) k 0 (omega (arith, lt, few, length-take n images))
    (eq-eqb (get_or (take n images) k 0 / WORDS_ON_PAGE) q (ap (λ x. x / WORDS_ON_PAGE) (get_or-take n images k 0 lt) ∙ e))

-- a part that is needed has an index
pub needs-from : (images : List ℕ) (n q : ℕ) → needs images n q ≡ true → (k : ℕ) × (k < n) × (slice_index images k / 1000 ≡ q)
needs-from images n q e =
    let found : (x : ℕ) × Contains (take n images) x × ((x / WORDS_ON_PAGE == q) ≡ true) = one-passes (λ x. x / WORDS_ON_PAGE == q) (take n images) e in
    let k = found.1.0 in
    let short : k < n = omega (arith, found.1.1, length-take n images) in
    let is : slice_index images k ≡ found.0 = sym (get_or-take n images k 0 short) ∙ get_or_default (take n images) k 0 found.0 found.1.1 ∙ found.1.2 in
    (k, short, ap (λ x. x / WORDS_ON_PAGE) is ∙ eqb-true (found.0 / WORDS_ON_PAGE) q found.2)

-- a part without an index is not
not-needed : (images : List ℕ) (n q : ℕ) → ((k : ℕ) → k < n → slice_index images k / 1000 ≡ q → ⊥) → needs images n q ≡ false
not-needed images n q none = by (needs images n q) refl
  where
    by : (b : Bool) → needs images n q ≡ b → b ≡ false
    by false e = refl
    by true e = let at = needs-from images n q e in absurd (none at.0 at.1 at.2)

-- all that are needed
pub needed-all : (images : List ℕ) (n count : ℕ) → onward (needs images n) 0 count ≡ parts_needed images n count
unfolding parts_needed
needed-all images n count = onward-all (needs images n) count

-- the least part that is needed comes next
pub next-needed : (images : List ℕ) (n from part count : ℕ) → n ≤ length images → part < count → IsNextNeeded images n from part → onward (needs images n) from count ≡ part ∷ onward (needs images n) (part + 1) count
next-needed images n from part count few lt next =
    onward-next (needs images n) from part count next.from_on lt
    (λ q le low. not-needed images n q (λ k short e. absurd (omega (arith, next.least k short (omega (arith, e, le)), e, low))))
    (needs-at images n next.place part few next.inside next.needed)

pub none-needed : (images : List ℕ) (n from count : ℕ) → IsNoneNeeded images n from → onward (needs images n) from count ≡ []
none-needed images n from count none = onward-none (needs images n) from count (λ q le. not-needed images n q (λ k short e. absurd (omega (arith, none k short, e, le))))

module _ (ns images : List ℕ) (a i part : ℕ) (few : cells_on (grown ns a) part ≤ length images) (m : AreImages ns (grown ns a) a i part (cells_on (grown ns a) part) images) (q : ℕ) where
  -- a cell of the part comes from the old part
  abbrev comes : List ℕ → Bool
  comes cell = (cell_index (grown ns a) cell / WORDS_ON_PAGE == part) && (cell_index ns (image_of cell a i) / WORDS_ON_PAGE == q)

  -- an old part that is needed by an index is that of the index's cell
  index-comes : needs images (cells_on (grown ns a) part) q ≡ true → comes_from ns a i part q ≡ true
  index-comes e =
      let at = needs-from images (cells_on (grown ns a) part) q e in
      let all = choices (map below (grown ns a)) in
      let x = 1000 * part + at.0 in
      let inside : x < length all = omega (arith, at.1, cells-counted (grown ns a)) in
      let cell = get_or all x [] in
      let there : IsCell (grown ns a) cell × (cell_index (grown ns a) cell ≡ x) = index-there (grown ns a) x cell (slice_get-get_or all x [] inside) in
      let image : slice_index images at.0 ≡ cell_index ns (image_of cell a i) = m.each at.0 cell at.1 there.0 there.1 in
      let on : cell_index (grown ns a) cell / WORDS_ON_PAGE ≡ part = omega (arith, there.1, at.1) in
      let from : cell_index ns (image_of cell a i) / WORDS_ON_PAGE ≡ q = ap (λ y. y / WORDS_ON_PAGE) (sym image) ∙ at.2 in
      list_any_at comes all x [] inside
      (both (cell_index (grown ns a) cell / WORDS_ON_PAGE == part) (cell_index ns (image_of cell a i) / WORDS_ON_PAGE == q) (eq-eqb (cell_index (grown ns a) cell / WORDS_ON_PAGE) part on) (eq-eqb (cell_index ns (image_of cell a i) / WORDS_ON_PAGE) q from))

  -- and the other way round
  cell-needs : comes_from ns a i part q ≡ true → needs images (cells_on (grown ns a) part) q ≡ true
  cell-needs e =
      let all = choices (map below (grown ns a)) in
      let found : (cell : List ℕ) × Contains all cell × (comes cell ≡ true) = one-passes comes all e in
      let cell = found.0 in
      let x = found.1.0 in
      let there : IsCell (grown ns a) cell × (cell_index (grown ns a) cell ≡ x) = index-there (grown ns a) x cell (slice_get-get_or all x cell found.1.1 ∙ ap Some found.1.2) in
      let on : cell_index (grown ns a) cell / WORDS_ON_PAGE ≡ part = eqb-true (cell_index (grown ns a) cell / WORDS_ON_PAGE) part (first (cell_index (grown ns a) cell / WORDS_ON_PAGE == part) (cell_index ns (image_of cell a i) / WORDS_ON_PAGE == q) found.2) in
      let from : cell_index ns (image_of cell a i) / WORDS_ON_PAGE ≡ q = eqb-true (cell_index ns (image_of cell a i) / WORDS_ON_PAGE) q (second (cell_index (grown ns a) cell / WORDS_ON_PAGE == part) (cell_index ns (image_of cell a i) / WORDS_ON_PAGE == q) found.2) in
      let k = x - 1000 * part in
      let short : k < cells_on (grown ns a) part = omega (arith, found.1.1, cells-counted (grown ns a), there.1, on) in
      let whole : cell_index (grown ns a) cell ≡ 1000 * part + k = omega (arith, there.1, on) in
      needs-at images (cells_on (grown ns a) part) k q few short (ap (λ y. y / WORDS_ON_PAGE) (m.each k cell short there.0 whole) ∙ from)

  alike : needs images (cells_on (grown ns a) part) q ≡ comes_from ns a i part q
  alike = both_ways (needs images (cells_on (grown ns a) part) q) (comes_from ns a i part q) index-comes cell-needs

-- the parts that the indices need are those from which the cells come
pub needed-are : (ns new images : List ℕ) (a i part count : ℕ) → new ≡ grown ns a → count ≡ cells_on new part → count ≤ length images → AreImages ns new a i part count images → parts_needed images count (word_pages (product ns)) ≡ sources ns a i part
unfolding parts_needed sources
needed-are ns new images a i part count is many few m =
    let all : count ≡ cells_on (grown ns a) part = many ∙ ap (λ ms. cells_on ms part) is in
    let m-grown : AreImages ns (grown ns a) a i part (cells_on (grown ns a) part) images = subst (λ n. AreImages ns (grown ns a) a i part n images) all (subst (λ ms. AreImages ns ms a i part count images) is m) in
    ap (λ n. filter (needs images n) (below (word_pages (product ns)))) all
    ∙ filter_agree (needs images (cells_on (grown ns a) part)) (comes_from ns a i part) (alike ns images a i part (omega (arith, all, few)) m-grown) (below (word_pages (product ns)))
