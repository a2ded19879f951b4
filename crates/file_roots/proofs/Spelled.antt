-- What the pages of a table area spell.
use Rattle.std.proofs.Common.{◌≡◌, ◌<◌, ◌≤◌, inl, inr, ◌+◌, ◌-◌, ◌*◌, ◌/◌, ◌%◌, ◌^◌, ℕ, zero, suc, cond, not, eqb, true, List, [], ◌∷◌, length, take, drop, slice_index, IsTrue, lit<, ap, ◌∙◌, subst, arith}
use Rattle.std.specs.Prelude.{min, All}
use Rattle.std.proofs.lemmas.Bool.{cases_lt, cases_eq, lt-ltb, le-ltb, ne_eqb, eq-eqb}
use Rattle.std.proofs.lemmas.List.{get_or_past, length-drop, length-take}
use Rattle.std.proofs.lemmas.List.Elements.{All-get_or}
use Rattle.grid_types.specs.declared.shape.Shape.{Shape}
use Rattle.grid_types.specs.Pages.{page_of}
use Rattle.grid_types.specs.Shapes.{is_shape, area_pages, header_page, table_page}
use Rattle.grid_types.proofs.Places.{within-limits, area-small}
use Rattle.grid_model.specs.Scales.{ascends_from, is_scale, scale_of}
use Rattle.grid_model.specs.Spellings.{RootFields, scale_spelling, list_spelling, bucket_table_spelling}
use Rattle.grid_model.specs.Lawful.{IsRootOn, Area, pages_named, nowhere}
use Rattle.grid_model.specs.Images.{area_spelling, half_of_scale}
use Rattle.grid_model.proofs.ScaleLaws.{tops, goes-on}
use Rattle.root_pages.specs.Areas.{SpellsScale, SpellsList, SpellsTable}
use Rattle.file_roots.specs.Damage.{SpellsUpTo}
use Rattle.file_roots.proofs.Marking.{all_front, all_rest}
use Rattle.file_roots.proofs.Pieces.{half_piece, in_piece}

-- the page of a scale, of the list and of the table
pub area_spelling-scale : (root : ℕ) (a : Area) (i : ℕ) → i < 8 → area_spelling root a i ≡ scale_spelling root i (half_of_scale (i % 2) (scale_of a.scales (i / 2)))
area_spelling-scale root a i lt =
    ap (λ t. cond t (scale_spelling root i (half_of_scale (i % 2) (scale_of a.scales (i / 2)))) (cond (eqb i 8) (list_spelling root i a.parts) (bucket_table_spelling root i (take 1000 (drop (1000 * (i - 9)) a.table))))) (lt-ltb i 8 lt)

pub area_spelling-table : (root : ℕ) (a : Area) (i : ℕ) → 9 ≤ i → area_spelling root a i ≡ bucket_table_spelling root i (take 1000 (drop (1000 * (i - 9)) a.table))
area_spelling-table root a i le =
    ap (λ t. cond t (scale_spelling root i (half_of_scale (i % 2) (scale_of a.scales (i / 2)))) (cond (eqb i 8) (list_spelling root i a.parts) (bucket_table_spelling root i (take 1000 (drop (1000 * (i - 9)) a.table))))) (le-ltb i 8 (omega (arith, le)))
    ∙ ap (λ t. cond t (list_spelling root i a.parts) (bucket_table_spelling root i (take 1000 (drop (1000 * (i - 9)) a.table)))) (ne_eqb i 8 (λ e. absurd (omega (arith, e, le))))

-- boundaries have 64 bits
ascending_fit : (l : ℕ) (bs : List ℕ) → ascends_from l bs ≡ true → (i : ℕ) → slice_index bs i < 2 ^ 64
ascending_fit l [] e i = lit< tt
ascending_fit l (b ∷ bs) e zero = omega (arith, tops l b bs e)
ascending_fit l (b ∷ bs) e (suc i) = ascending_fit (b + 1) bs (goes-on l b bs e) i

pub scale_fits : (scale : List ℕ) → IsTrue (is_scale scale) → (i : ℕ) → slice_index scale i < 2 ^ 64
scale_fits scale e i = ascending_fit 1 scale e i

-- what the entries of a table name is below the number of pages, so the entries have 32 bits
pub table_fits : (most : ℕ) (xs : List ℕ) → most ≤ 65536 → All (λ p. p < most) (pages_named xs) → (i : ℕ) → slice_index xs i < 2 ^ 32
unfolding nowhere
table_fits most [] le all i = omega arith
table_fits most (x ∷ xs) le all i = elim (cases_eq x 4294967295) [
  | inl same ↦
      let named : pages_named (x ∷ xs) ≡ pages_named xs = ap (λ t. cond (not t) (x ∷ pages_named xs) (pages_named xs)) (eq-eqb x 4294967295 same) in
      first_or_rest i (omega (arith, same)) (table_fits most xs le (subst (All (λ p. p < most)) named all))
  | inr other ↦
      let named : pages_named (x ∷ xs) ≡ x ∷ pages_named xs = ap (λ t. cond (not t) (x ∷ pages_named xs) (pages_named xs)) (ne_eqb x 4294967295 other) in
      let first : All (λ p. p < most) (x ∷ pages_named xs) = subst (All (λ p. p < most)) named all in
      first_or_rest i (omega (arith, first 0 0 (omega arith), le)) (table_fits most xs le (λ k d lt. first (suc k) d (omega (arith, lt))))
]
  where
    first_or_rest : (i : ℕ) → x < 2 ^ 32 → ((k : ℕ) → slice_index xs k < 2 ^ 32) → slice_index (x ∷ xs) i < 2 ^ 32
    first_or_rest zero here rest = here
    first_or_rest (suc k) here rest = rest k

pub list_fits : (most : ℕ) (xs : List ℕ) → most ≤ 65536 → All (λ p. p < most) xs → (i : ℕ) → slice_index xs i < 2 ^ 32
list_fits most xs le all i = elim (cases_lt i (length xs)) [
  | inl lt ↦ omega (arith, all i 0 lt, le)
  | inr ge ↦ omega (arith, get_or_past xs i 0 ge)
]

module _ (s : Shape) (image : List ℕ) (r : RootFields) (lawful : IsTrue (is_shape s)) (root : IsRootOn s (header_page r.number) r) where
  -- no scale has more than a thousand boundaries
  pub few : (i : ℕ) → slice_index r.boundaries i ≤ 1000
  few i = elim (cases_lt i (length r.boundaries)) [
    | inl lt ↦ omega (arith, All-get_or (λ n. n ≤ s.boundaries) r.boundaries i 0 lt root.few_boundaries, (within-limits s lawful).few_boundaries)
    | inr ge ↦ omega (arith, get_or_past r.boundaries i 0 ge)
  ]

  -- how many boundaries stand on a page
  abbrev pub count_on : ℕ → ℕ
  count_on i = min 500 (slice_index r.boundaries (i / 2) - 500 * (i % 2))

  module _ (n : ℕ) (a : Area) (spelled : SpellsUpTo s image r n a) where
    -- a page of a scale spells its half of it
    pub scale_there : (i : ℕ) → i < n → i < 8 → SpellsScale r.number i (page_of (table_page s (header_page r.number) i) image) (take 500 (drop (500 * (i % 2)) (scale_of a.scales (i / 2))))
    scale_there i lt le =
        let scale = scale_of a.scales (i / 2) in
        let short : length scale ≤ 1000 = omega (arith, spelled.boundaries (i / 2), few (i / 2)) in
        record {
          root_in_range = omega (arith, root.number);
          index_in_range = omega (arith, le);
          in_range = in_piece (2 ^ 64) 500 (500 * (i % 2)) scale (lit< tt) (scale_fits scale (spelled.scales (i / 2)));
          few = omega (arith, length-take 500 (drop (500 * (i % 2)) scale));
          bytes = spelled.pages i lt ∙ area_spelling-scale r.number a i le ∙ ap (scale_spelling r.number i) (half_piece (i % 2) scale (omega arith) short);
        }

    -- as many as there are
    pub scale_count : (i : ℕ) → i < n → length (take 500 (drop (500 * (i % 2)) (scale_of a.scales (i / 2)))) ≡ count_on i
    scale_count i lt =
        let scale = scale_of a.scales (i / 2) in
        omega (arith, length-take 500 (drop (500 * (i % 2)) scale), length-drop (500 * (i % 2)) scale, spelled.boundaries (i / 2), few (i / 2), lt)

    -- the page of the list spells it
    pub list_there : 8 < n → SpellsList r.number 8 (page_of (table_page s (header_page r.number) 8) image) a.parts
    list_there lt =
        let w = within-limits s lawful in
        record {
          root_in_range = omega (arith, root.number);
          index_in_range = omega arith;
          in_range = list_fits s.pages a.parts w.few_pages (all_front (λ p. p < s.pages) a.parts (pages_named a.table) spelled.named);
          few = omega (arith, spelled.parts, root.parts, root.few_cells, w.few_cells);
          bytes = spelled.pages 8 lt;
        }

    -- a page of the table spells its thousand numbers
    pub table_there : (i : ℕ) → i < n → 9 ≤ i → i < area_pages s → SpellsTable r.number i (page_of (table_page s (header_page r.number) i) image) (take 1000 (drop (1000 * (i - 9)) a.table))
    table_there i lt ge inside =
        let w = within-limits s lawful in
        record {
          root_in_range = omega (arith, root.number);
          index_in_range = omega (arith, inside, area-small s lawful);
          in_range = in_piece (2 ^ 32) 1000 (1000 * (i - 9)) a.table (omega arith) (table_fits s.pages a.table w.few_pages (all_rest (λ p. p < s.pages) a.parts (pages_named a.table) spelled.named));
          few = omega (arith, length-take 1000 (drop (1000 * (i - 9)) a.table));
          bytes = spelled.pages i lt ∙ area_spelling-table r.number a i ge;
        }

    pub table_count : (i : ℕ) → i < n → 9 ≤ i → length (take 1000 (drop (1000 * (i - 9)) a.table)) ≡ min 1000 (s.pages - 1000 * (i - 9))
    table_count i lt ge = omega (arith, length-take 1000 (drop (1000 * (i - 9)) a.table), length-drop (1000 * (i - 9)) a.table, spelled.numbers, lt, ge)
