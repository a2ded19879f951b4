-- Where the numbers of a shape stand in a header page.
use Rattle.std.proofs.Common.{◌≡◌, ℕ, List, [], ◌∷◌, ◌++◌, drop, replicate, codes, refl, sym, ap, ◌∙◌, append_assoc, arith}
use Rattle.std.proofs.lemmas.List.{take-append-drop}
use Rattle.grid_types.specs.declared.shape.Shape.{Shape}
use Rattle.grid_types.proofs.Places.{within-limits}
use Rattle.page_fields.specs.Fields.{number, bytes_of}
use Rattle.page_fields.proofs.BytesOf.{number-back, length-bytes_of}
use Rattle.page_fields.proofs.Places.{behind, byte_there}
use Rattle.root_pages.specs.Headers.{SpellsShape}
use Rattle.root_pages.specs.Reading.{ShapeAt}
use Rattle.root_pages.proofs.Shapes.{shape_fields, shape_is}

module _ (page : List ℕ) (s : Shape) (is : SpellsShape page s) where
  abbrev from28 : List ℕ
  from28 = bytes_of 4 s.cells ++ (replicate 32 0 ++ drop 64 page)

  abbrev from24 : List ℕ
  from24 = bytes_of 4 s.boundaries ++ from28

  abbrev from20 : List ℕ
  from20 = bytes_of 4 s.slots ++ from24

  abbrev from16 : List ℕ
  from16 = bytes_of 4 s.pages ++ from20

  abbrev from12 : List ℕ
  from12 = bytes_of 2 s.capacity ++ (0 ∷ 0 ∷ from16)

  at0 : page ≡ codes "GRIDFILE" ++ (bytes_of 2 1 ++ (s.k ∷ 0 ∷ from12))
  at0 =
      let joined : (shape_fields s ++ replicate 32 0) ++ drop 64 page ≡ codes "GRIDFILE" ++ (bytes_of 2 1 ++ (s.k ∷ 0 ∷ from12)) = simp append_assoc in
      sym (take-append-drop 64 page) ∙ ap (λ (xs : List ℕ). xs ++ drop 64 page) (is.bytes ∙ shape_is s) ∙ joined

  at8 : drop 8 page ≡ bytes_of 2 1 ++ (s.k ∷ 0 ∷ from12)
  at8 = behind 0 8 8 page (codes "GRIDFILE") _ at0 refl refl

  at10 : drop 10 page ≡ s.k ∷ 0 ∷ from12
  at10 = behind 8 2 10 page (bytes_of 2 1) _ at8 (length-bytes_of 2 1) refl

  at12 : drop 12 page ≡ from12
  at12 = behind 10 2 12 page (s.k ∷ 0 ∷ []) _ at10 refl refl

  at14 : drop 14 page ≡ 0 ∷ 0 ∷ from16
  at14 = behind 12 2 14 page (bytes_of 2 s.capacity) _ at12 (length-bytes_of 2 s.capacity) refl

  at16 : drop 16 page ≡ from16
  at16 = behind 14 2 16 page (0 ∷ 0 ∷ []) _ at14 refl refl

  at20 : drop 20 page ≡ from20
  at20 = behind 16 4 20 page (bytes_of 4 s.pages) _ at16 (length-bytes_of 4 s.pages) refl

  at24 : drop 24 page ≡ from24
  at24 = behind 20 4 24 page (bytes_of 4 s.slots) _ at20 (length-bytes_of 4 s.slots) refl

  at28 : drop 28 page ≡ from28
  at28 = behind 24 4 28 page (bytes_of 4 s.boundaries) _ at24 (length-bytes_of 4 s.boundaries) refl

  -- the numbers stand where they are spelled
  pub shape_there : ShapeAt page s
  shape_there =
      let w = within-limits s is.lawful in
      record {
        k = sym (byte_there 10 page s.k _ at10);
        capacity = sym (ap (number 2) at12 ∙ number-back 2 s.capacity _ (omega (arith, w.small_capacity)));
        pages = sym (ap (number 4) at16 ∙ number-back 4 s.pages _ (omega (arith, w.few_pages)));
        slots = sym (ap (number 4) at20 ∙ number-back 4 s.slots _ (omega (arith, w.few_slots)));
        boundaries = sym (ap (number 4) at24 ∙ number-back 4 s.boundaries _ (omega (arith, w.few_boundaries)));
        cells = sym (ap (number 4) at28 ∙ number-back 4 s.cells _ (omega (arith, w.few_cells)));
      }

-- in a page stand the numbers of one shape
pub one_shape : (page : List ℕ) (s t : Shape) → ShapeAt page s → ShapeAt page t → s ≡ t
one_shape page s t x y =
    let k = x.k ∙ sym y.k in
    let capacity = x.capacity ∙ sym y.capacity in
    let pages = x.pages ∙ sym y.pages in
    let slots = x.slots ∙ sym y.slots in
    let boundaries = x.boundaries ∙ sym y.boundaries in
    let cells = x.cells ∙ sym y.cells in
    λ i. record { k = k i; capacity = capacity i; pages = pages i; slots = slots i; boundaries = boundaries i; cells = cells i }

-- the shape that a header page spells is the one whose numbers stand there
pub shape_again : (page : List ℕ) (s t : Shape) → SpellsShape page s → ShapeAt page t → s ≡ t
shape_again page s t is at = one_shape page s t (shape_there page s is) at
