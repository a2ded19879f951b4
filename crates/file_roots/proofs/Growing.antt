-- An area that is read grows by a page.
use Rattle.std.proofs.Common.{◌≡◌, ◌≢◌, ◌<◌, ◌≤◌, inl, inr, ◌+◌, ◌-◌, ◌*◌, ◌/◌, ◌%◌, ◌++◌, ℕ, List, [], length, take, drop, slice_index, IsTrue, sym, ap, ◌∙◌, subst, arith, length-append}
use Rattle.std.specs.Prelude.{min, All, slice_set}
use Rattle.std.proofs.Math.ListN.{drop_of_length-le}
use Rattle.std.proofs.lemmas.Bool.{cases_lt, cases_eq}
use Rattle.std.proofs.lemmas.List.{nil_from_length, get_or_past, get_or-set_same, get_or-set_other, length-set, take_all}
use Rattle.grid_types.specs.declared.shape.Shape.{Shape}
use Rattle.grid_types.specs.Pages.{page_of}
use Rattle.grid_types.specs.Shapes.{is_shape, header_page, table_page}
use Rattle.grid_types.proofs.Places.{within-limits}
use Rattle.grid_model.specs.Lists.{AreDistinct}
use Rattle.grid_model.specs.Scales.{is_scale, scale_of}
use Rattle.grid_model.specs.Spellings.{RootFields, scale_spelling, list_spelling, bucket_table_spelling}
use Rattle.grid_model.specs.Lawful.{IsRootOn, Area, pages_named}
use Rattle.grid_model.specs.Images.{area_spelling, half_of_scale}
use Rattle.file_roots.specs.Damage.{SpellsUpTo}
use Rattle.file_roots.proofs.Slices.{first_half}
use Rattle.file_roots.proofs.Pieces.{piece_old, piece_new, half_piece}
use Rattle.file_roots.proofs.Spelled.{area_spelling-scale, area_spelling-table, few, count_on}

module _ (s : Shape) (image : List ℕ) (r : RootFields) (lawful : IsTrue (is_shape s)) (root : IsRootOn s (header_page r.number) r) where
  -- an attribute that the root does not have has no boundaries
  none_past : (i : ℕ) → length r.boundaries ≤ i → slice_index r.boundaries i ≡ 0
  none_past i le = get_or_past r.boundaries i 0 le

  few_attributes : length r.boundaries ≤ 4
  few_attributes = let w = within-limits s lawful in omega (arith, root.attributes, w.few_attributes)

  -- of other scales as many boundaries stand on one page more
  other_counts : (n i : ℕ) → n < 8 → i ≢ n / 2 → min (500 * (n - 2 * i)) (slice_index r.boundaries i) ≡ min (500 * (n + 1 - 2 * i)) (slice_index r.boundaries i)
  other_counts n i le other = elim (cases_lt i (n / 2)) [
    | inl lt ↦ omega (arith, few s image r lawful root i, lt)
    | inr ge ↦ omega (arith, other, ge)
  ]

  -- behind the pages of the scales all boundaries stand
  later_counts : (n i : ℕ) → 8 ≤ n → min (500 * (n - 2 * i)) (slice_index r.boundaries i) ≡ min (500 * (n + 1 - 2 * i)) (slice_index r.boundaries i)
  later_counts n i le = elim (cases_lt i 4) [
    | inl lt ↦ omega (arith, few s image r lawful root i, lt, le)
    | inr ge ↦ omega (arith, none_past i (omega (arith, few_attributes, ge)))
  ]

  module _ (n : ℕ) (a : Area) (spelled : SpellsUpTo s image r n a) where
    -- by a page of a scale
    pub grow_scale : (xs : List ℕ) → n < 8 → n / 2 < length a.scales → page_of (table_page s (header_page r.number) n) image ≡ scale_spelling r.number n xs → length xs ≡ count_on s image r lawful root n
        → IsTrue (is_scale (scale_of a.scales (n / 2) ++ xs)) → SpellsUpTo s image r (n + 1) (record { scales = slice_set a.scales (n / 2) (scale_of a.scales (n / 2) ++ xs); parts = a.parts; table = a.table })
    grow_scale xs le inside page count scale =
        let at = n / 2 in
        let old = scale_of a.scales at in
        let all = slice_set a.scales at (old ++ xs) in
        let whole = slice_index r.boundaries at in
        let from = 500 * (n % 2) in
        let lo : length old ≡ min from whole = omega (arith, spelled.boundaries at) in
        let here : scale_of all at ≡ old ++ xs = get_or-set_same a.scales at (old ++ xs) [] inside in
        let there : (i : ℕ) → i ≢ at → scale_of all i ≡ scale_of a.scales i = λ i other. get_or-set_other a.scales at i (old ++ xs) [] other in
        let long : length (old ++ xs) ≤ 1000 = omega (arith, length-append old xs, lo, count, few s image r lawful root at) in
        record {
          attributes = length-set a.scales at (old ++ xs) ∙ spelled.attributes;
          boundaries = λ i. elim (cases_eq i at) [
            | inl same ↦ subst (λ (j : ℕ). length (scale_of all j) ≡ min (500 * (n + 1 - 2 * j)) (slice_index r.boundaries j)) (sym same) (ap length here ∙ omega (arith, length-append old xs, lo, count, few s image r lawful root at))
            | inr other ↦ ap length (there i other) ∙ spelled.boundaries i ∙ other_counts n i le other
          ];
          parts = spelled.parts ∙ omega (arith, le);
          numbers = spelled.numbers ∙ omega (arith, le);
          scales = λ i. elim (cases_eq i at) [
            | inl same ↦ subst (λ (j : ℕ). IsTrue (is_scale (scale_of all j))) (sym same) (subst (λ ys. IsTrue (is_scale ys)) (sym here) scale)
            | inr other ↦ subst (λ ys. IsTrue (is_scale ys)) (sym (there i other)) (spelled.scales i)
          ];
          named = spelled.named;
          distinct = spelled.distinct;
          pages = λ k lt. elim (cases_lt k n) [
            | inl below ↦
                let halves : half_of_scale (k % 2) (scale_of a.scales (k / 2)) ≡ half_of_scale (k % 2) (scale_of all (k / 2)) = elim (cases_eq (k / 2) at) [
                  | inl same ↦
                      let zeroth : k % 2 ≡ 0 = omega (arith, same, below) in
                      let first : take 500 (old ++ xs) ≡ take 500 old = piece_old 500 0 from whole old xs lo count (omega (arith, same, below)) in
                      ap (λ (j : ℕ). half_of_scale (k % 2) (scale_of a.scales j)) same ∙ first_half (k % 2) old zeroth ∙ sym first ∙ sym (first_half (k % 2) (old ++ xs) zeroth)
                      ∙ ap (half_of_scale (k % 2)) (sym here) ∙ ap (λ (j : ℕ). half_of_scale (k % 2) (scale_of all j)) (sym same)
                  | inr other ↦ ap (half_of_scale (k % 2)) (sym (there (k / 2) other))
                ] in
                spelled.pages k below ∙ area_spelling-scale r.number a k (omega (arith, below, le)) ∙ ap (scale_spelling r.number k) halves ∙ sym (area_spelling-scale r.number (record { scales = all; parts = a.parts; table = a.table }) k (omega (arith, below, le)))
            | inr not_below ↦
                let same : n ≡ k = omega (arith, lt, not_below) in
                let half : half_of_scale (n % 2) (scale_of all at) ≡ xs = ap (half_of_scale (n % 2)) here ∙ half_piece (n % 2) (old ++ xs) (omega arith) long ∙ piece_new 500 from whole old xs lo count in
                subst (λ (j : ℕ). page_of (table_page s (header_page r.number) j) image ≡ area_spelling r.number (record { scales = all; parts = a.parts; table = a.table }) j) same
                (page ∙ ap (scale_spelling r.number n) (sym half) ∙ sym (area_spelling-scale r.number (record { scales = all; parts = a.parts; table = a.table }) n le))
          ];
        }

    -- by a page of a scale that the root does not have
    pub grow_past : (xs : List ℕ) → n < 8 → length a.scales ≤ n / 2 → page_of (table_page s (header_page r.number) n) image ≡ scale_spelling r.number n xs → length xs ≡ count_on s image r lawful root n → SpellsUpTo s image r (n + 1) a
    grow_past xs le outside page count =
        let at = n / 2 in
        let zeroth : slice_index r.boundaries at ≡ 0 = none_past at (omega (arith, outside, spelled.attributes)) in
        let nothing : xs ≡ [] = nil_from_length xs (omega (arith, count, zeroth)) in
        let empty : scale_of a.scales at ≡ [] = get_or_past a.scales at [] outside in
        record {
          attributes = spelled.attributes;
          boundaries = λ i. elim (cases_eq i at) [
            | inl same ↦ spelled.boundaries i ∙ omega (arith, ap (slice_index r.boundaries) same, zeroth)
            | inr other ↦ spelled.boundaries i ∙ other_counts n i le other
          ];
          parts = spelled.parts ∙ omega (arith, le);
          numbers = spelled.numbers ∙ omega (arith, le);
          scales = spelled.scales;
          named = spelled.named;
          distinct = spelled.distinct;
          pages = λ k lt. elim (cases_lt k n) [
            | inl below ↦ spelled.pages k below
            | inr not_below ↦
                let same : n ≡ k = omega (arith, lt, not_below) in
                let half : half_of_scale (n % 2) (scale_of a.scales at) ≡ xs =
                ap (half_of_scale (n % 2)) empty ∙ half_piece (n % 2) [] (omega arith) (omega arith) ∙ ap (take 500) (drop_of_length-le {A = ℕ} [] {i = 500 * (n % 2)} (omega arith)) ∙ take_all {A = ℕ} 500 [] (omega arith) ∙ sym nothing in
                subst (λ (j : ℕ). page_of (table_page s (header_page r.number) j) image ≡ area_spelling r.number a j) same (page ∙ ap (scale_spelling r.number n) (sym half) ∙ sym (area_spelling-scale r.number a n le))
          ];
        }

    -- by the page of the list
    pub grow_list : (xs : List ℕ) → n ≡ 8 → page_of (table_page s (header_page r.number) n) image ≡ list_spelling r.number n xs → length xs ≡ r.parts
        → All (λ p. p < s.pages) ((a.parts ++ xs) ++ pages_named a.table) → AreDistinct ((a.parts ++ xs) ++ pages_named a.table) → SpellsUpTo s image r (n + 1) (record { scales = a.scales; parts = a.parts ++ xs; table = a.table })
    grow_list xs eighth page count named distinct =
        let w = within-limits s lawful in
        let nothing : a.parts ≡ [] = nil_from_length a.parts (omega (arith, spelled.parts, eighth)) in
        record {
          attributes = spelled.attributes;
          boundaries = λ i. spelled.boundaries i ∙ later_counts n i (omega (arith, eighth));
          parts = omega (arith, length-append a.parts xs, spelled.parts, count, eighth, root.parts, root.few_cells, w.few_cells);
          numbers = spelled.numbers ∙ omega (arith, eighth);
          scales = spelled.scales;
          named = named;
          distinct = distinct;
          pages = λ k lt. elim (cases_lt k n) [
            | inl below ↦ spelled.pages k below ∙ area_spelling-scale r.number a k (omega (arith, below, eighth)) ∙ sym (area_spelling-scale r.number (record { scales = a.scales; parts = a.parts ++ xs; table = a.table }) k (omega (arith, below, eighth)))
            | inr not_below ↦
                let same : 8 ≡ k = omega (arith, lt, not_below, eighth) in
                let now : page_of (table_page s (header_page r.number) 8) image ≡ list_spelling r.number 8 xs = subst (λ (j : ℕ). page_of (table_page s (header_page r.number) j) image ≡ list_spelling r.number j xs) eighth page in
                subst (λ (j : ℕ). page_of (table_page s (header_page r.number) j) image ≡ area_spelling r.number (record { scales = a.scales; parts = a.parts ++ xs; table = a.table }) j) same
                (now ∙ ap (λ ys. list_spelling r.number 8 (ys ++ xs)) (sym nothing))
          ];
        }

    -- by a page of the table
    pub grow_table : (xs : List ℕ) → 9 ≤ n → page_of (table_page s (header_page r.number) n) image ≡ bucket_table_spelling r.number n xs → length xs ≡ min 1000 (s.pages - 1000 * (n - 9))
        → All (λ p. p < s.pages) (a.parts ++ pages_named (a.table ++ xs)) → AreDistinct (a.parts ++ pages_named (a.table ++ xs)) → SpellsUpTo s image r (n + 1) (record { scales = a.scales; parts = a.parts; table = a.table ++ xs })
    grow_table xs ninth page count named distinct =
        let w = within-limits s lawful in
        let from = 1000 * (n - 9) in
        let new : Area = record { scales = a.scales; parts = a.parts; table = a.table ++ xs } in
        record {
          attributes = spelled.attributes;
          boundaries = λ i. spelled.boundaries i ∙ later_counts n i (omega (arith, ninth));
          parts = omega (arith, spelled.parts, ninth, root.parts, root.few_cells, w.few_cells);
          numbers = omega (arith, length-append a.table xs, spelled.numbers, count, ninth);
          scales = spelled.scales;
          named = named;
          distinct = distinct;
          pages = λ k lt. elim (cases_lt k n) [
            | inl below ↦ elim (cases_lt k 8) [
              | inl scale ↦ spelled.pages k below ∙ area_spelling-scale r.number a k scale ∙ sym (area_spelling-scale r.number new k scale)
              | inr behind ↦ elim (cases_eq k 8) [
                | inl eighth ↦
                    let at_eight : page_of (table_page s (header_page r.number) 8) image ≡ area_spelling r.number a 8 = spelled.pages 8 (omega (arith, eighth, below)) in
                    subst (λ (j : ℕ). page_of (table_page s (header_page r.number) j) image ≡ area_spelling r.number new j) (sym eighth) at_eight
                | inr other ↦
                    let table : 9 ≤ k = omega (arith, behind, other) in
                    let part : take 1000 (drop (1000 * (k - 9)) (a.table ++ xs)) ≡ take 1000 (drop (1000 * (k - 9)) a.table) = piece_old 1000 (1000 * (k - 9)) from s.pages a.table xs spelled.numbers count (omega (arith, below, table)) in
                    spelled.pages k below ∙ area_spelling-table r.number a k table ∙ ap (bucket_table_spelling r.number k) (sym part) ∙ sym (area_spelling-table r.number new k table)
              ]
            ]
            | inr not_below ↦
                let same : n ≡ k = omega (arith, lt, not_below) in
                let part : take 1000 (drop from (a.table ++ xs)) ≡ xs = piece_new 1000 from s.pages a.table xs spelled.numbers count in
                subst (λ (j : ℕ). page_of (table_page s (header_page r.number) j) image ≡ area_spelling r.number new j) same (page ∙ ap (bucket_table_spelling r.number n) (sym part) ∙ sym (area_spelling-table r.number new n ninth))
          ];
        }
